use Rattle.float64.specs.Ops.{◌⊖◌}
use Rattle.vectors.specs.Vec.{at}
use Rattle.vectors.specs.Parts.{Written}
use Rattle.decomposition.proofs.minus_into.Given as goal

abbrev pub invariant-loop-i : goal.invariant-loop-i
invariant-loop-i l = Written 0 l.i (λ j. at l.y j ⊖ at l.x j) l.initial.c l.c
