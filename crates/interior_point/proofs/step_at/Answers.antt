use Rattle.std.proofs.Common.{arith, refl, ◌-◌, length, take, drop, Float}
use Rattle.std.proofs.lemmas.List.{length-take}
use Rattle.vectors.proofs.Parts.{part-size}
use Rattle.dual_point.proofs.Known.{dy_long}
use Rattle.interior_point.proofs.Places.{step_small, stepped-at}
use Rattle.interior_point.proofs.step_at.Goals as goal

pub slice_bounds-newton_step-end-2 : goal.slice_bounds-newton_step-end-2
slice_bounds-newton_step-end-2 c = omega (arith, dy_long c.args.k c.args.y.now c.args.dy.now c.requires.known, length-take {A = Float} (length c.args.y.now - c.args.k) c.args.dy.now)

pub newton_step-requires : goal.newton_step-requires
newton_step-requires c = let a = c.args in
    let n = length a.y.now in
    let s = a.work.now in
    let l = length s - n in
    let k = a.k in
    let p = c.requires in
    let small = step_small k (n - k) n p.series.order.high (omega arith) in
    let long = dy_long k a.y.now a.dy.now p.known in
    record {
      order = p.series.order;
      some = omega arith;
      room = omega (arith, small, p.room, part-size n l s (take l (drop n s)) (omega arith) refl);
      dy = omega (arith, long, length-take {A = Float} (n - k) a.dy.now);
    }

pub returns : goal.returns
returns c = let a = c.args in
    let n = length a.y.now in
    let m = n - a.k in
    let s = a.work.now in
    let w = c.newton_step in
    let small = step_small a.k m n c.requires.series.order.high (omega arith) in
    stepped-at a.k a.g _ a.lam a.inv_t n (length s) m s w.new.s w.result (omega arith) (omega arith) (part-size n (length s - n) s w.new.s (omega arith) w.auto.s)
    (rw c.requires.known at w.ensures)
