use Rattle.std.proofs.Common.{◌≡◌}
use Rattle.float64.specs.Ops.{◌⊗◌}
use Rattle.vectors.specs.Vec.{at}
use Rattle.vectors.specs.Sums.{sum_to}
use Rattle.certify.proofs.product.Given as goal

abbrev pub invariant-loop-i : goal.invariant-loop-i
invariant-loop-i l = l.a ≡ sum_to (λ j. at l.v j ⊗ at l.dy j) l.i
