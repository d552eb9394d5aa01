use Rattle.l2.specs.L2.{objective_l2}
use Rattle.l2.proofs.objective.Goals as goal

pub returns : goal.returns
unfolding objective_l2
returns c = rw (c.squares-s.ensures.0, c.squares-s.ensures.1)
