use Rattle.vectors.specs.Parts.{Written}
use Rattle.stored.proofs.Same.{double_from}
use Rattle.stored.proofs.load.Given as goal

abbrev pub invariant-loop-i : goal.invariant-loop-i
invariant-loop-i l = Written 0 l.i (double_from l.s l.a) l.initial.x-items l.x-items
