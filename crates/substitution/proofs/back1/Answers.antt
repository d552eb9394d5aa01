use Rattle.std.proofs.Common.{◌≡◌, ◌+◌, ◌-◌, ◌*◌, refl, sym, arith}
use lib.Seq.{get_or-set_same}
use lib.Ieee.{nan}
use Rattle.substitution.proofs.Orders.{step_1}
use Rattle.substitution.proofs.Laws.{carried_none, carried_more}
use Rattle.substitution.proofs.back1.Goals as goal

pub loop-i-init : goal.loop-i-init
loop-i-init c =
    let e : c.args.m - (c.args.m - 1) ≡ 1 = omega arith in
    (omega arith, refl, rw e (carried_none _ _ _ _))

pub loop-i-preserved : goal.loop-i-preserved
loop-i-preserved c =
    let m = c.args.m in
    let i = c.loop-i.i in
    let s = c.loop-i.s in
    let w = c.loop-i.invariant in
    let e : i - 1 + 1 ≡ i = omega arith in (
      omega arith,
      sym (get_or-set_same s (m * 2 + (i - 1)) _ nan (omega arith)),
      carried_more (i - 1) (m * 2 + (i - 1)) w.2 (omega arith) (omega arith) refl (omega arith) (step_1 s m (i - 1) (omega arith) (rw e w.1)) (omega arith),
    )

pub returns : goal.returns
returns c =
    let e : c.args.m - c.loop-i.i ≡ c.args.m = omega arith in
    rw e at c.loop-i.invariant.2
