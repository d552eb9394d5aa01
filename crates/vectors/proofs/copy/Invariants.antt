use Rattle.vectors.specs.Vec.{at}
use Rattle.vectors.specs.Parts.{Written}
use Rattle.vectors.proofs.copy.Given as goal

abbrev pub invariant-loop-i : goal.invariant-loop-i
invariant-loop-i l = Written 0 l.i (λ j. at l.x j) l.initial.t l.t
