use Rattle.std.proofs.Common.{refl, arith}
use Rattle.vectors.specs.Sums.{sum_to}
use Rattle.vectors.proofs.Laws.{none}
use Rattle.certificate.proofs.Laws.{trend_more}
use Rattle.certificate.proofs.head.Goals as goal

pub loop-j-init : goal.loop-j-init
unfolding sum_to
loop-j-init c = record { written = none; squared = refl }

pub loop-j-preserved : goal.loop-j-preserved
loop-j-preserved c = let size = c.loop-j.invariant.written.size in trend_more c.loop-j.invariant (omega arith) (omega arith) c.diff_t_at-d.ensures
