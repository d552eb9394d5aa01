use Rattle.std.proofs.Common.{◌≡◌}
use Rattle.float64.specs.Ops.{◌⊗◌}
use Rattle.vectors.specs.Vec.{at}
use Rattle.vectors.specs.Sums.{sum_to}
use Rattle.differences.specs.Diff.{diff_k}
use Rattle.l2.proofs.sums.products.Given as goal

abbrev pub invariant-loop-i : goal.invariant-loop-i
invariant-loop-i l = (l.a ≡ sum_to (λ j. at l.v j ⊗ at (diff_k l.k l.y) j) l.i) × (l.b ≡ sum_to (λ j. at l.v j ⊗ at l.v j) l.i)
