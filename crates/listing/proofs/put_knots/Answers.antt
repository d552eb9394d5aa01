use Rattle.std.proofs.Common.{◌<◌, ◌∙◌, length-take, get_or-take, arith}
use Rattle.lines.proofs.More.{knots_none, knots-more}
use Rattle.listing.proofs.put_knots.Goals as goal

pub loop-knot-init : goal.loop-knot-init
loop-knot-init c = knots_none c.args.positions.now c.args.knots.now _ _ (omega arith)

pub loop-knot-preserved : goal.loop-knot-preserved
loop-knot-preserved c =
    let a = c.args in
    let i = c.loop-knot.knot-index in
    let h : i < a.n = omega (arith, length-take a.n a.knots.now) in
    knots-more a.positions.now a.knots.now i (omega (arith, length-take a.n a.knots.now)) c.loop-knot.invariant c.put_knot_line-pos.ensures (c.knot_position.ensures ∙ rw (get_or-take a.n a.knots.now i 0 h))
