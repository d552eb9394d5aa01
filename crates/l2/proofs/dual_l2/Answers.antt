use Rattle.l2.specs.L2.{dual_l2}
use Rattle.l2.proofs.dual_l2.Goals as goal

pub returns : goal.returns
unfolding dual_l2
returns c = rw (c.fall_squares-a.ensures, c.products-p.ensures.0, c.products-p.ensures.1)
