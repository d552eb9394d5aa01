use Rattle.elimination.proofs.Elimination.{Factoring}
use Rattle.elimination.proofs.factor.Given as goal

abbrev pub invariant-loop-r : goal.invariant-loop-r
invariant-loop-r l = Factoring l.k l.m l.r l.initial.s l.s
