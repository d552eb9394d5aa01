use Rattle.vectors.specs.Vec.{at}
use Rattle.vectors.specs.Parts.{Written}
use Rattle.differences.specs.Diff.{diff_k}
use Rattle.differences.proofs.diff_k.Given as goal

abbrev pub invariant-loop-i : goal.invariant-loop-i
invariant-loop-i l = Written 0 l.i (at (diff_k l.k l.y)) l.initial.d l.d
