use Rattle.std.proofs.Common.{arith}
use Rattle.series.specs.declared.Refusal.TheVariants.{TooManyHours, WrongRate}
use Rattle.series.proofs.Taking.{hours_many, hours_unrated, hours-rated, refuses_as, takes}
use Rattle.series.proofs.take_hours.Goals as goal

pub returns-then-sounding-gt168 : goal.returns-then-sounding-gt168
returns-then-sounding-gt168 c = refuses_as _ TooManyHours (hours_many c.args.settings _ c.args.rated (omega arith))

pub returns-then-not-rated : goal.returns-then-not-rated
returns-then-not-rated c = refuses_as _ WrongRate (hours_unrated c.args.settings _ c.args.rated (omega arith) c.if-not-rated.true)

pub returns : goal.returns
returns c = takes _ (hours-rated c.args.settings _ c.args.rated (omega arith) c.if-not-rated.false) c.close_up-n.ensures
