use Rattle.float64.specs.Helpers.{min_of}
use Rattle.direction.specs.Direction.{step_cap_by}
use Rattle.direction.proofs.Laws.{less_number}
use Rattle.direction.proofs.cap_of.Goals as goal

pub returns-then-q-step : goal.returns-then-q-step
unfolding step_cap_by min_of
returns-then-q-step c = (rw (c.if-dmu.true, c.requires, c.if-q-step.true), less_number _ _ c.if-q-step.true)

pub returns-else-q-step : goal.returns-else-q-step
unfolding step_cap_by min_of
returns-else-q-step c = (rw (c.if-dmu.true, c.requires, c.if-q-step.false), c.requires)

pub returns-else-dmu : goal.returns-else-dmu
unfolding step_cap_by
returns-else-dmu c = (rw c.if-dmu.false, c.requires)
