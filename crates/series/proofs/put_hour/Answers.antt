use Rattle.std.proofs.Common.{arith}
use Rattle.vectors.proofs.Texts.{wrote_one, wrote_none}
use Rattle.records.specs.Entries.{hours_of}
use Rattle.records.specs.Positions.{positions_from}
use Rattle.series.proofs.put_hour.Goals as goal

pub bounds-y-n : goal.bounds-y-n
unfolding hours_of
bounds-y-n c = omega (arith, rw c.in-Some.is at c.requires.0)

pub bounds-positions-n : goal.bounds-positions-n
unfolding hours_of
bounds-positions-n c = omega (arith, rw c.in-Some.is at c.requires.1)

pub returns-in-Some : goal.returns-in-Some
unfolding hours_of positions_from
returns-in-Some c =
    rw c.in-Some.is (record { hours = wrote_one _ _ _ (omega (arith, rw c.in-Some.is at c.requires.0)); positions = wrote_one _ _ _ (omega (arith, rw c.in-Some.is at c.requires.1)) })

pub returns-in_default : goal.returns-in_default
unfolding hours_of positions_from
returns-in_default c =
    rw c.in_default.is (record { hours = wrote_none _ _ (omega (arith, rw c.in_default.is at c.requires.0)); positions = wrote_none _ _ (omega (arith, rw c.in_default.is at c.requires.1)) })
