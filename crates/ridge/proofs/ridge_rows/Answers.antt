use Rattle.banded.proofs.Filling.{laid_more}
use Rattle.ridge.proofs.ridge_rows.Goals as goal

pub loop-i-preserved : goal.loop-i-preserved
loop-i-preserved c = λ v h. laid_more (c.loop-i.invariant v h) c.ridge_row.ensures
