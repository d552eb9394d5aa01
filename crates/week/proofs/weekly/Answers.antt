use Rattle.week.proofs.Showing.{taken_week, text_refused, text_taken}
use Rattle.week.proofs.weekly.Goals as goal

pub returns-in-Err-clause-wrote : goal.returns-in-Err-clause-wrote
returns-in-Err-clause-wrote c = rw (text_refused _ c.in-Err.ensures.said, ← c.from.ensures) c.put_refused.ensures

pub returns-in-Ok-clause-wrote : goal.returns-in-Ok-clause-wrote
returns-in-Ok-clause-wrote c = rw (text_taken _ (taken_week _ c.in-Ok.ensures)) c.fit_week.ensures
