use Rattle.std.proofs.Common.{◌≡◌, ◌+◌, ◌-◌, ◌∙◌, ap, length, drop, arith, length-drop, length-take}
use Rattle.std.specs.Float.{nan}
use Rattle.float64.specs.Helpers.{abs_of}
use Rattle.vectors.specs.Sums.{max_abs}
use Rattle.vectors.proofs.Sums.{max-more}
use lib.Seq.{get_or-drop, get_or-take}
use Rattle.decomposition.proofs.max_rest.Goals as goal

pub loop-x-preserved : goal.loop-x-preserved
loop-x-preserved c =
    let y = c.args.y.now in
    let from = c.args.from in
    let i = c.loop-x.x-index in
    let e : from + (i + 1) ≡ from + i + 1 = omega arith in
    let size = length-take (length y - from) (drop from y) in
    let left = length-drop from y in
    λ s. rw e (c.max-top.ensures ∙ max-more _ _ _ _ (c.loop-x.invariant s) (c.abs.ensures ∙ ap abs_of (get_or-take _ _ i nan (omega arith) ∙ get_or-drop from y i nan)))

pub returns : goal.returns
unfolding max_abs
returns c =
    let y = c.args.y.now in
    let from = c.args.from in
    let size = length-take (length y - from) (drop from y) in
    let left = length-drop from y in
    let e : from + c.loop-x.x-index ≡ length y = omega arith in
    λ s. rw e at (c.loop-x.invariant s)
