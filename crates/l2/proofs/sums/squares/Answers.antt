use Rattle.std.proofs.Common.{◌≡◌, ◌-◌, refl, sym, ap, length, Float, arith}
use Rattle.float64.specs.Ops.{◌⊗◌}
use Rattle.vectors.specs.Sums.{sum_to, norm2_sq}
use Rattle.vectors.proofs.Sums.{sum_more}
use Rattle.differences.specs.Diff.{diff_k}
use Rattle.differences.proofs.Laws.{length-diff_k}
use Rattle.certificate.proofs.Laws.{at-minus}
use Rattle.l2.proofs.sums.squares.Goals as goal

pub loop-i-init : goal.loop-i-init
unfolding sum_to
loop-i-init c = (refl, refl)

pub loop-i-preserved : goal.loop-i-preserved
loop-i-preserved c = (
  sum_more _ _ _ _ c.loop-i.invariant.0 (ap (λ (d : Float). d ⊗ d) (sym (at-minus c.args.y.now c.args.x.now c.loop-i.i (omega arith)))),
  sum_more _ _ _ _ c.loop-i.invariant.1 (ap (λ (d : Float). d ⊗ d) c.diff_at-d.ensures),
)

pub returns : goal.returns
unfolding norm2_sq
returns c =
    let t : c.loop-i.i ≡ length c.args.x.now - c.args.k = omega arith in
    let e : c.loop-i.i ≡ length (diff_k c.args.k c.args.x.now) = omega (arith, length-diff_k c.args.k c.args.x.now) in
    (c.residual_rest.ensures (rw t at c.loop-i.invariant.0), rw e at c.loop-i.invariant.1)
