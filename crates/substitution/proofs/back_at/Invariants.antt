use Rattle.std.proofs.Common.{◌≡◌, ◌+◌, ◌*◌}
use Rattle.float64.specs.Ops.{◌⊘◌, ◌⊗◌}
use Rattle.vectors.specs.Vec.{at}
use Rattle.banded.specs.Rows.{less_from}
use Rattle.banded.specs.Run.{of_run}
use Rattle.substitution.proofs.back_at.Given as goal

abbrev pub invariant-loop-t : goal.invariant-loop-t
invariant-loop-t l = l.v ≡ less_from (at l.s (l.m * (l.k + 1) + l.i) ⊘ of_run l.k l.s l.i l.i) (λ r. of_run l.k l.s r l.i ⊗ at l.s (l.m * (l.k + 1) + r)) (l.i + 1) (l.i + 1 + l.t)
