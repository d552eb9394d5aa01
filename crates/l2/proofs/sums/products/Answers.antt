use Rattle.std.proofs.Common.{◌≡◌, refl, ap, length, Float, arith}
use Rattle.float64.specs.Ops.{◌⊗◌}
use Rattle.vectors.specs.Vec.{at}
use Rattle.vectors.specs.Sums.{sum_to, dot, norm2_sq}
use Rattle.vectors.proofs.Sums.{sum_more}
use Rattle.l2.proofs.sums.products.Goals as goal

pub loop-i-init : goal.loop-i-init
unfolding sum_to
loop-i-init c = (refl, refl)

pub loop-i-preserved : goal.loop-i-preserved
loop-i-preserved c = (
  sum_more _ _ _ _ c.loop-i.invariant.0 (ap (λ (d : Float). at c.args.v.now c.loop-i.i ⊗ d) c.diff_at.ensures),
  sum_more _ _ _ _ c.loop-i.invariant.1 refl,
)

pub returns : goal.returns
unfolding dot norm2_sq
returns c =
    let e : c.loop-i.i ≡ length c.args.v.now = omega arith in
    (rw e at c.loop-i.invariant.0, rw e at c.loop-i.invariant.1)
