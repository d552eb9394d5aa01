use Rattle.std.proofs.Common.{◌≡◌, sym, ap, length, Float, arith}
use Rattle.float64.specs.Ops.{◌⊗◌}
use Rattle.vectors.specs.Sums.{norm2_sq}
use Rattle.vectors.proofs.Sums.{sum_more}
use Rattle.certificate.specs.Certificate.{minus}
use Rattle.certificate.proofs.Laws.{length-minus, at-minus}
use Rattle.l2.proofs.sums.residual_rest.Goals as goal

pub loop-i-preserved : goal.loop-i-preserved
loop-i-preserved c = λ s. sum_more _ _ _ _ (c.loop-i.invariant s) (ap (λ (d : Float). d ⊗ d) (sym (at-minus c.args.y.now c.args.x.now c.loop-i.i (omega arith))))

pub returns : goal.returns
unfolding norm2_sq
returns c =
    let e : c.loop-i.i ≡ length (minus c.args.y.now c.args.x.now) = omega (arith, length-minus c.args.y.now c.args.x.now) in
    λ s. rw e at (c.loop-i.invariant s)
