-- The loop reads the bytes from the last one back.
use Rattle.std.proofs.Common.{◌≡◌, ◌+◌, ◌-◌, ◌<◌, length, take, drop, arith, refl, ◌∙◌}
use Rattle.std.proofs.lemmas.Iterator.Adapters.{YieldsList-from_rev_slice}
use Rattle.std.proofs.lemmas.Iterator.Consumers.{YieldsList-turn, YieldsList-end}
use Rattle.framing.specs.Bytes.{little_endian}
use Rattle.framing.proofs.Numbers.{pushed, pushed_below, pushed_fits, length_backward, spells_backward}
use Rattle.framing.proofs.number.Goals as goal

pub loop-b-init : goal.loop-b-init
unfolding little_endian
loop-b-init g c = record { spells = refl; below = omega arith }

pub overflow_mul-n : goal.overflow_mul-n
overflow_mul-n g c =
    let e : c.into_iter-b-iterator.result.iter.rest.now ≡ take (c.args.at + g.row.N - c.args.at) (drop c.args.at c.args.s.now) = rw (c.into_iter-b-iterator.ensures.into_iter_gives, c.rev-b-items.ensures.source) c.iter.ensures.rest in
    let t = YieldsList-turn (YieldsList-from_rev_slice _ e) c.loop-b.yielded _ c.loop-b.yielded_by _ _ c.in-Some.b c.in-Some.is c.next.ensures.steps in
    let k : length c.loop-b.yielded < 8 = omega (arith, t.0, length_backward c.args.s.now c.args.at g.row.N c.requires.inside) in
    omega (arith, pushed_fits _ _ k c.loop-b.invariant.below)

pub overflow_add-n : goal.overflow_add-n
overflow_add-n g c =
    let e : c.into_iter-b-iterator.result.iter.rest.now ≡ take (c.args.at + g.row.N - c.args.at) (drop c.args.at c.args.s.now) = rw (c.into_iter-b-iterator.ensures.into_iter_gives, c.rev-b-items.ensures.source) c.iter.ensures.rest in
    let t = YieldsList-turn (YieldsList-from_rev_slice _ e) c.loop-b.yielded _ c.loop-b.yielded_by _ _ c.in-Some.b c.in-Some.is c.next.ensures.steps in
    let k : length c.loop-b.yielded < 8 = omega (arith, t.0, length_backward c.args.s.now c.args.at g.row.N c.requires.inside) in
    omega (arith, pushed_fits _ _ k c.loop-b.invariant.below)

pub loop-b-preserved : goal.loop-b-preserved
loop-b-preserved g c = record {
  spells = omega (arith, pushed c.loop-b.yielded c.in-Some.b);
  below = omega (arith, pushed_below c.loop-b.yielded c.in-Some.b c.loop-b.n c.loop-b.invariant.below (omega arith));
}

pub returns-clause-value : goal.returns-clause-value
returns-clause-value g c =
    let e : c.into_iter-b-iterator.result.iter.rest.now ≡ take (c.args.at + g.row.N - c.args.at) (drop c.args.at c.args.s.now) = rw (c.into_iter-b-iterator.ensures.into_iter_gives, c.rev-b-items.ensures.source) c.iter.ensures.rest in
    let t = YieldsList-end (YieldsList-from_rev_slice _ e) c.loop-b.yielded _ c.loop-b.yielded_by _ _ c.in-None.is c.next.ensures.steps in
    c.loop-b.invariant.spells ∙ spells_backward c.args.s.now c.args.at g.row.N c.loop-b.yielded t.0

pub returns-clause-below : goal.returns-clause-below
returns-clause-below g c =
    let e : c.into_iter-b-iterator.result.iter.rest.now ≡ take (c.args.at + g.row.N - c.args.at) (drop c.args.at c.args.s.now) = rw (c.into_iter-b-iterator.ensures.into_iter_gives, c.rev-b-items.ensures.source) c.iter.ensures.rest in
    let t = YieldsList-end (YieldsList-from_rev_slice _ e) c.loop-b.yielded _ c.loop-b.yielded_by _ _ c.in-None.is c.next.ensures.steps in
    rw (t.1 ∙ length_backward c.args.s.now c.args.at g.row.N c.requires.inside) at c.loop-b.invariant.below
