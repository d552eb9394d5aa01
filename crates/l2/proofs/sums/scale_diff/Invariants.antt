use Rattle.float64.specs.Ops.{◌⊗◌}
use Rattle.vectors.specs.Vec.{at}
use Rattle.vectors.specs.Parts.{Written}
use Rattle.differences.specs.Diff.{diff_k}
use Rattle.l2.proofs.sums.scale_diff.Given as goal

abbrev pub invariant-loop-i : goal.invariant-loop-i
invariant-loop-i l = Written 0 l.i (λ j. l.lam ⊗ at (diff_k l.k l.x) j) l.initial.v l.v
