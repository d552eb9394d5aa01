use Rattle.std.proofs.Common.{refl}
use Rattle.vectors.specs.Sums.{sum_to}
use Rattle.vectors.proofs.Sums.{sum_more}
use Rattle.line_search.proofs.sum.Goals as goal

pub loop-x-init : goal.loop-x-init
unfolding sum_to
loop-x-init c = refl

pub loop-x-preserved : goal.loop-x-preserved
loop-x-preserved c = sum_more _ _ _ _ c.loop-x.invariant refl
