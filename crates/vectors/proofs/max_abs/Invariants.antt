use Rattle.std.proofs.Common.{◌≡◌}
use Rattle.float64.specs.Helpers.{abs_of}
use Rattle.vectors.specs.Vec.{at}
use Rattle.vectors.specs.Sums.{max_to}
use Rattle.vectors.proofs.max_abs.Given as goal

abbrev pub invariant-loop-x : goal.invariant-loop-x
invariant-loop-x l = l.top ≡ max_to (λ k. abs_of (at l.v k)) l.x-index
