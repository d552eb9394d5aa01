use Rattle.std.proofs.Common.{◌≡◌}
use Rattle.vectors.specs.Sums.{inside_to}
use Rattle.vectors.proofs.inside.Given as goal

abbrev pub invariant-loop-x : goal.invariant-loop-x
invariant-loop-x l = l.all ≡ inside_to l.lam l.v l.x-index
