use Rattle.std.proofs.Common.{◌≡◌, ◌+◌, ◌-◌}
use Rattle.float64.specs.Ops.{◌⊗◌}
use Rattle.vectors.specs.Vec.{at}
use Rattle.banded.specs.Rows.{less_from}
use Rattle.banded.specs.Run.{of_run}
use Rattle.banded.proofs.forward_at.Given as goal

abbrev pub invariant-loop-t : goal.invariant-loop-t
invariant-loop-t l = l.v ≡ less_from (at l.s (l.b + l.i)) (λ j. of_run l.k l.s l.i j ⊗ at l.s (l.b + j)) (l.i - l.k) (l.i + l.t - l.k)
