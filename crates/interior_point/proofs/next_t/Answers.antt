use Rattle.interior_point.specs.InteriorPoint.{next_t}
use Rattle.interior_point.proofs.next_t.Goals as goal

pub returns-then-step : goal.returns-then-step
unfolding next_t
returns-then-step c = λ p. rw c.if-step.true c.max.ensures

pub returns-else-step : goal.returns-else-step
unfolding next_t
returns-else-step c = λ p. rw c.if-step.false
