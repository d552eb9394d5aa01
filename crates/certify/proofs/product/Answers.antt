use Rattle.std.proofs.Common.{refl, ◌≡◌, length, arith}
use Rattle.vectors.specs.Sums.{sum_to, dot}
use Rattle.vectors.proofs.Sums.{sum_more}
use Rattle.certify.proofs.product.Goals as goal

pub loop-i-init : goal.loop-i-init
unfolding sum_to
loop-i-init c = refl

pub loop-i-preserved : goal.loop-i-preserved
loop-i-preserved c = sum_more _ _ _ _ c.loop-i.invariant refl

pub returns : goal.returns
unfolding dot
returns c = let e : c.loop-i.i ≡ length c.args.v.now = omega arith in rw e at c.loop-i.invariant
