use Rattle.std.proofs.Common.{◌≡◌}
use Rattle.float64.specs.Ops.{◌⊗◌}
use Rattle.vectors.specs.Vec.{at}
use Rattle.vectors.specs.Sums.{sum_to}
use Rattle.differences.specs.Diff.{diff_kt}
use Rattle.differences.proofs.fall_squares.Given as goal

abbrev pub invariant-loop-j : goal.invariant-loop-j
invariant-loop-j l = l.sum ≡ sum_to (λ i. at (diff_kt l.k l.v) i ⊗ at (diff_kt l.k l.v) i) l.j
