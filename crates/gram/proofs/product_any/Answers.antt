use Rattle.std.proofs.Common.{◌≡◌, refl, sym, ◌∙◌, arith}
use Rattle.vectors.specs.Vec.{apart}
use Rattle.vectors.proofs.Sums.{more_from_none, more_from-more}
use Rattle.gram.specs.Gram.{product}
use Rattle.gram.proofs.product_any.Goals as goal

pub loop-j-init : goal.loop-j-init
loop-j-init c = sym (more_from_none _ _ _ _ (omega arith))

pub loop-j-preserved : goal.loop-j-preserved
loop-j-preserved c = let d : c.abs_diff.result ≡ apart c.args.i c.loop-j.j = omega (arith, c.abs_diff.ensures) in
    more_from-more _ _ _ c.loop-j.j c.loop-j.invariant (rw d) (omega arith) refl

pub returns : goal.returns
unfolding product
returns c = let e : c.loop-j.j ≡ c.min-j-end.result = omega arith in
    rw (e ∙ c.min-j-end.ensures) at c.loop-j.invariant
