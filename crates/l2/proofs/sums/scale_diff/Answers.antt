use Rattle.std.proofs.Common.{◌≡◌, sym, length, arith}
use Rattle.float64.specs.Ops.{◌⊗◌}
use Rattle.vectors.specs.Vec.{at}
use Rattle.vectors.proofs.Laws.{length-list, at-list, written-put}
use Rattle.differences.specs.Diff.{diff_k}
use Rattle.differences.proofs.Laws.{length-diff_k}
use Rattle.l2.specs.L2.{scaled}
use Rattle.l2.proofs.sums.scale_diff.Goals as goal

pub returns : goal.returns
unfolding scaled
returns c =
    let lam = c.args.lam in
    let d = diff_k c.args.k c.args.x.now in
    let e : c.loop-i.i ≡ length d = omega (arith, length-diff_k c.args.k c.args.x.now) in
    written-put (scaled lam d) (rw e at c.loop-i.invariant) (length-list (length d) (λ i. lam ⊗ at d i)) (omega (arith, length-diff_k c.args.k c.args.x.now))
    (λ i h. sym (at-list (length d) (λ i. lam ⊗ at d i) i h))
