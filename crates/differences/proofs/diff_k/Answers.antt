use Rattle.std.proofs.Common.{refl, arith}
use Rattle.vectors.proofs.Laws.{written-put}
use Rattle.differences.specs.Diff.{diff_k}
use Rattle.differences.proofs.Laws.{length-diff_k}
use Rattle.differences.proofs.diff_k.Goals as goal

pub returns : goal.returns
returns c = let a = c.args in
    written-put (diff_k a.k a.y.now) c.loop-i.invariant (omega (arith, length-diff_k a.k a.y.now)) (omega arith) (λ i h. refl)
