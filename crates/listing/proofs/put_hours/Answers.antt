use Rattle.std.proofs.Common.{◌≡◌, arith}
use Rattle.lines.proofs.More.{hours_none, hours-more}
use Rattle.listing.proofs.put_hours.Goals as goal

pub put_hour_line-pos-requires : goal.put_hour_line-pos-requires
put_hour_line-pos-requires c = omega (arith, c.loop-i.invariant.short)

pub loop-i-init : goal.loop-i-init
loop-i-init c = hours_none c.args.positions.now c.args.trend.now c.args.cycle.now _ _ (omega arith)

pub loop-i-preserved : goal.loop-i-preserved
loop-i-preserved c =
    let a = c.args in
    hours-more a.positions.now a.trend.now a.cycle.now c.loop-i.i (omega arith) (omega arith) (omega arith) c.loop-i.invariant c.put_hour_line-pos.ensures c.from-p.ensures

pub returns : goal.returns
returns c = let e : c.loop-i.i ≡ c.args.n = omega arith in rw e at c.loop-i.invariant
