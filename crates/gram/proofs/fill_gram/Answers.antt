use Rattle.banded.proofs.Filling.{laid_more}
use Rattle.gram.proofs.fill_gram.Goals as goal

pub loop-r-preserved : goal.loop-r-preserved
loop-r-preserved c = laid_more c.loop-r.invariant c.gram_row.ensures
