use Rattle.std.proofs.Common.{◌≡◌, ◌+◌}
use Rattle.float64.specs.Helpers.{abs_of}
use Rattle.vectors.specs.Vec.{at}
use Rattle.vectors.specs.Sums.{max_to}
use Rattle.decomposition.proofs.max_rest.Given as goal

abbrev pub invariant-loop-x : goal.invariant-loop-x
invariant-loop-x l = l.initial.top ≡ max_to (λ j. abs_of (at l.y j)) l.from → l.top ≡ max_to (λ j. abs_of (at l.y j)) (l.from + l.x-index)
