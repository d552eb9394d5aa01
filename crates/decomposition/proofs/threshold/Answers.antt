use Rattle.std.proofs.Common.{◌∙◌}
use Rattle.decomposition.specs.Knots.{threshold}
use Rattle.decomposition.proofs.threshold.Goals as goal

pub returns : goal.returns
unfolding threshold
returns c = c.max.ensures ∙ rw (c.greatest-p.ensures.0, c.greatest-p.ensures.1)
