use Rattle.std.specs.Float.Ieee.{lt}
use Rattle.float64.specs.Helpers.{abs_of}
use Rattle.vectors.specs.Vec.{at, places_to}
use Rattle.vectors.specs.Parts.{Wrote}
use Rattle.differences.specs.Diff.{diff_k}
use Rattle.decomposition.proofs.find_knots.Given as goal

abbrev pub invariant-loop-i : goal.invariant-loop-i
invariant-loop-i l = Wrote l.initial.knots 0 (places_to (λ j. lt l.t (abs_of (at (diff_k l.k l.x) j))) l.i) l.knots l.n
