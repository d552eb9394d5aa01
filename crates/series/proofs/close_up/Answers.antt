use Rattle.std.proofs.Common.{arith}
use Rattle.vectors.proofs.Texts.{wrote_length}
use Rattle.series.proofs.Closing.{closed_none, closed-more, closing-room, all_slots}
use Rattle.series.proofs.close_up.Goals as goal

pub loop-i-init : goal.loop-i-init
loop-i-init c = closed_none c.args.slots.now _ _

pub put_hour-n-requires : goal.put_hour-n-requires
put_hour-n-requires c =
    let w = c.loop-i.invariant in
    let h = closing-room c.args.slots.now c.loop-i.i (omega arith) c.loop-i.n (omega (arith, w.hours.next)) c.requires.hours_in_bounds.0 in
    (omega (arith, h, wrote_length w.hours), omega (arith, h, c.requires.hours_in_bounds.1, wrote_length w.positions))

pub loop-i-preserved : goal.loop-i-preserved
loop-i-preserved c = closed-more c.args.slots.now c.loop-i.i (omega arith) c.loop-i.invariant c.put_hour-n.ensures

pub returns : goal.returns
returns c = rw (all_slots c.args.slots.now c.loop-i.i (omega arith)) at c.loop-i.invariant
