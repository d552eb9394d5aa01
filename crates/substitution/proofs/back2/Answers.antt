use Rattle.std.proofs.Common.{◌≡◌, ◌+◌, ◌-◌, ◌*◌, refl, sym, ap, ◌∙◌, arith}
use native.Mathlib.Nat.{ne_of_gt}
use lib.Ieee.{nan}
use lib.Seq.{get_or-set_same, get_or-set_other}
use Rattle.vectors.specs.Vec.{at}
use Rattle.substitution.proofs.Orders.{step_2}
use Rattle.substitution.proofs.Laws.{carried_none, carried_more}
use Rattle.substitution.proofs.back2.Goals as goal

pub loop-i-init : goal.loop-i-init
loop-i-init c =
    let m = c.args.m in
    let e : m - (m - 2) ≡ 2 = omega arith in
    (omega arith, refl, ap (at c.args.s.now) (omega arith), rw e (carried_none _ _ _ _))

pub loop-i-preserved : goal.loop-i-preserved
loop-i-preserved c =
    let m = c.args.m in
    let i = c.loop-i.i in
    let s = c.loop-i.s in
    let w = c.loop-i.invariant in
    let e : i - 1 + 1 ≡ i = omega arith in
    let f : i - 1 + 2 ≡ i + 1 = omega arith in (
      omega arith,
      sym (get_or-set_same s (m * 3 + (i - 1)) _ nan (omega arith)),
      w.1 ∙ sym (rw e (get_or-set_other s (m * 3 + (i - 1)) (m * 3 + i) _ nan (ne_of_gt (omega arith)))),
      carried_more (i - 1) (m * 3 + (i - 1)) w.3 (omega arith) (omega arith) refl (omega arith) (step_2 s m (i - 1) (omega arith) (rw e w.1) (rw f w.2)) (omega arith),
    )

pub returns : goal.returns
returns c =
    let e : c.args.m - c.loop-i.i ≡ c.args.m = omega arith in
    rw e at c.loop-i.invariant.3
