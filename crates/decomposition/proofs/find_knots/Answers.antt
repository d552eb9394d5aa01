use Rattle.std.proofs.Common.{◌≡◌, ◌∙◌, ap, length, arith, rules}
use Rattle.std.specs.Float.Ieee.{lt}
use Rattle.float64.specs.Helpers.{abs_of}
use Rattle.vectors.specs.Vec.{at, places_to}
use Rattle.vectors.proofs.Texts.{wrote_none}
use Rattle.vectors.proofs.Places.{places_few, places-more}
use Rattle.differences.specs.Diff.{diff_k}
use Rattle.differences.proofs.Laws.{length-diff_k}
use Rattle.decomposition.specs.Knots.{knots}
use Rattle.decomposition.proofs.find_knots.Goals as goal

pub loop-i-init : goal.loop-i-init
unfolding places_to
loop-i-init c = wrote_none _ 0 (search rules)

pub add_place-n-requires : goal.add_place-n-requires
add_place-n-requires c =
    let few = places_few (λ j. lt c.threshold-t.result (abs_of (at (diff_k c.args.k c.args.x.now) j))) c.loop-i.i in
    (omega (arith, few), omega arith)

pub loop-i-preserved : goal.loop-i-preserved
loop-i-preserved c =
    places-more _ c.loop-i.i c.loop-i.invariant c.add_place-n.ensures (omega arith) (ap (lt c.threshold-t.result) (c.abs-size.ensures ∙ ap abs_of c.diff_at.ensures))

pub returns : goal.returns
unfolding knots
returns c =
    let e : c.loop-i.i ≡ length (diff_k c.args.k c.args.x.now) = omega (arith, length-diff_k c.args.k c.args.x.now) in
    rw (e, c.threshold-t.ensures) at c.loop-i.invariant
