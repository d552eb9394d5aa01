use Rattle.std.proofs.Common.{◌*◌}
use Rattle.fields.specs.Puts.{Puts}
use Rattle.listing.specs.Shown.{first_knots}
use Rattle.listing.proofs.put_knots.Given as goal

abbrev pub invariant-loop-knot : goal.invariant-loop-knot
invariant-loop-knot l = Puts l.initial.out l.at (first_knots l.positions l.knots l.knot-index) l.out l.pos (26 * l.knot-index)
