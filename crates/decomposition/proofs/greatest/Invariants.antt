use Rattle.std.proofs.Common.{◌≡◌}
use Rattle.float64.specs.Helpers.{abs_of}
use Rattle.vectors.specs.Vec.{at}
use Rattle.vectors.specs.Sums.{max_to}
use Rattle.differences.specs.Diff.{diff_k}
use Rattle.decomposition.proofs.greatest.Given as goal

abbrev pub invariant-loop-i : goal.invariant-loop-i
invariant-loop-i l = (l.a ≡ max_to (λ j. abs_of (at (diff_k l.k l.y) j)) l.i) × (l.b ≡ max_to (λ j. abs_of (at l.y j)) l.i)
