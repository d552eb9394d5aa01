use Rattle.std.proofs.Common.{◌+◌, ◌-◌}
use Rattle.vectors.specs.Vec.{at}
use Rattle.vectors.specs.Parts.{Written}
use Rattle.vectors.proofs.copy_within.Given as goal

abbrev pub invariant-loop-i : goal.invariant-loop-i
invariant-loop-i l = Written l.b (l.b + l.i) (λ j. at l.initial.s (l.a + (j - l.b))) l.initial.s l.s
