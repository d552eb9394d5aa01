use Rattle.banded.proofs.Filling.{laid_more}
use Rattle.active_set.proofs.system.fill_bands.Goals as goal

pub loop-p-preserved : goal.loop-p-preserved
loop-p-preserved c = laid_more c.loop-p.invariant c.fill_row.ensures
