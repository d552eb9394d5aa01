use Rattle.std.proofs.Common.{◌≡◌}
use Rattle.vectors.specs.Vec.{at}
use Rattle.vectors.specs.Sums.{sum_to}
use Rattle.line_search.proofs.sum.Given as goal

abbrev pub invariant-loop-x : goal.invariant-loop-x
invariant-loop-x l = l.a ≡ sum_to (at l.v) l.x-index
