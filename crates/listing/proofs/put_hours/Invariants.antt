use Rattle.std.proofs.Common.{◌*◌}
use Rattle.fields.specs.Puts.{Puts}
use Rattle.listing.specs.Shown.{first_hours}
use Rattle.listing.proofs.put_hours.Given as goal

abbrev pub invariant-loop-i : goal.invariant-loop-i
invariant-loop-i l = Puts l.initial.out l.at (first_hours l.positions l.trend l.cycle l.i) l.out l.pos (57 * l.i)
