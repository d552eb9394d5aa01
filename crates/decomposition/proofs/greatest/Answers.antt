use Rattle.std.proofs.Common.{◌≡◌, ◌-◌, ◌∙◌, refl, ap, length, arith}
use Rattle.float64.specs.Helpers.{abs_of}
use Rattle.vectors.specs.Sums.{max_to, max_abs}
use Rattle.vectors.proofs.Sums.{max-more}
use Rattle.differences.specs.Diff.{diff_k}
use Rattle.differences.proofs.Laws.{length-diff_k}
use Rattle.decomposition.proofs.greatest.Goals as goal

pub loop-i-init : goal.loop-i-init
unfolding max_to
loop-i-init c = (refl, refl)

pub loop-i-preserved : goal.loop-i-preserved
loop-i-preserved c = (
  c.max-a.ensures ∙ max-more _ _ _ _ c.loop-i.invariant.0 (c.abs.ensures ∙ ap abs_of c.diff_at.ensures),
  c.max-b.ensures ∙ max-more _ _ _ _ c.loop-i.invariant.1 c.abs-in-loop-i.ensures,
)

pub returns : goal.returns
unfolding max_abs
returns c =
    let t : c.loop-i.i ≡ length c.args.y.now - c.args.k = omega arith in
    let e : c.loop-i.i ≡ length (diff_k c.args.k c.args.y.now) = omega (arith, length-diff_k c.args.k c.args.y.now) in
    (rw e at c.loop-i.invariant.0, c.max_rest.ensures (rw t at c.loop-i.invariant.1))
