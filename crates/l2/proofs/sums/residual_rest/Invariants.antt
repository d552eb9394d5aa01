use Rattle.std.proofs.Common.{◌≡◌}
use Rattle.float64.specs.Ops.{◌⊗◌}
use Rattle.vectors.specs.Vec.{at}
use Rattle.vectors.specs.Sums.{sum_to}
use Rattle.certificate.specs.Certificate.{minus}
use Rattle.l2.proofs.sums.residual_rest.Given as goal

abbrev pub invariant-loop-i : goal.invariant-loop-i
invariant-loop-i l =
    l.initial.sum ≡ sum_to (λ j. at (minus l.y l.x) j ⊗ at (minus l.y l.x) j) l.from
    → l.sum ≡ sum_to (λ j. at (minus l.y l.x) j ⊗ at (minus l.y l.x) j) l.i
