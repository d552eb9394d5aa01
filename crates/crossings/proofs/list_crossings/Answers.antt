use Rattle.std.proofs.Common.{◌≡◌, ◌-◌, length, arith, rules}
use Rattle.vectors.specs.Vec.{places_to}
use Rattle.vectors.proofs.Texts.{wrote_none}
use Rattle.vectors.proofs.Places.{places_few, places-more}
use Rattle.crossings.specs.Crossings.{crosses_at, crossings}
use Rattle.crossings.proofs.list_crossings.Goals as goal

pub loop-i-init : goal.loop-i-init
unfolding places_to
loop-i-init c = wrote_none _ 0 (search rules)

pub add_place-n-requires : goal.add_place-n-requires
add_place-n-requires c =
    let l = c.loop-i in
    (omega (arith, l.invariant.next, places_few (crosses_at c.args.level c.args.trend.now) l.i), omega arith)

pub loop-i-preserved : goal.loop-i-preserved
loop-i-preserved c = places-more _ c.loop-i.i c.loop-i.invariant c.add_place-n.ensures (omega arith) c.crosses-here.ensures

pub returns : goal.returns
unfolding crossings
returns c =
    let e : c.loop-i.i ≡ length c.args.trend.now - 1 = omega arith in
    rw e at c.loop-i.invariant
