use Rattle.std.proofs.Common.{◌≡◌, ◌+◌, ◌-◌, ◌*◌, ◌<◌}
use Rattle.vectors.specs.Vec.{at}
use Rattle.substitution.specs.Solved.{Carried}
use Rattle.substitution.proofs.back2.Given as goal

abbrev pub invariant-loop-i : goal.invariant-loop-i
invariant-loop-i l = (l.i + 1 < l.m) × (l.x1 ≡ at l.s (l.m * 3 + l.i)) × (l.x2 ≡ at l.s (l.m * 3 + (l.i + 1))) × Carried 2 l.m 2 (l.m - l.i) l.initial.s l.s
