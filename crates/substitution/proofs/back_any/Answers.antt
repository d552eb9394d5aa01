use Rattle.std.proofs.Common.{◌≡◌, ◌-◌, refl, arith}
use Rattle.substitution.proofs.Laws.{carried_none, carried_more}
use Rattle.substitution.proofs.back_any.Goals as goal

pub loop-i-init : goal.loop-i-init
loop-i-init c =
    let e : c.args.m - (c.args.m - c.args.from) ≡ c.args.from = omega arith in
    (omega arith, rw e (carried_none _ _ _ _))

pub loop-i-preserved : goal.loop-i-preserved
loop-i-preserved c =
    (omega arith, carried_more _ _ c.loop-i.invariant.1 (omega arith) (omega arith) refl (omega arith) c.back_at.ensures (omega arith))

pub returns : goal.returns
returns c =
    let e : c.args.m - c.loop-i.i ≡ c.args.to = omega arith in
    rw e at c.loop-i.invariant.1
