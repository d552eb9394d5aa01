use Rattle.std.proofs.Common.{◌≡◌}
use Rattle.float64.specs.Ops.{◌⊗◌}
use Rattle.vectors.specs.Vec.{at}
use Rattle.vectors.specs.Sums.{sum_to}
use Rattle.differences.specs.Diff.{diff_k}
use Rattle.certificate.specs.Certificate.{minus}
use Rattle.l2.proofs.sums.squares.Given as goal

abbrev pub invariant-loop-i : goal.invariant-loop-i
invariant-loop-i l =
    (l.a ≡ sum_to (λ j. at (minus l.y l.x) j ⊗ at (minus l.y l.x) j) l.i)
    × (l.b ≡ sum_to (λ j. at (diff_k l.k l.x) j ⊗ at (diff_k l.k l.x) j) l.i)
