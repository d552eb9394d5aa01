use Rattle.banded.specs.Run.{Factored}
use Rattle.banded.proofs.factor_row.Given as goal

abbrev pub invariant-loop-c : goal.invariant-loop-c
invariant-loop-c l = Factored l.k l.r l.c l.initial.s l.s
