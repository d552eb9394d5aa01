use Rattle.float64.specs.Helpers.{clamp_of}
use Rattle.vectors.specs.Vec.{at}
use Rattle.vectors.specs.Parts.{Written}
use Rattle.certify.proofs.clamp_into.Given as goal

abbrev pub invariant-loop-i : goal.invariant-loop-i
invariant-loop-i l = Written 0 l.i (λ j. clamp_of (at l.z j) l.lam) l.initial.dual l.dual
