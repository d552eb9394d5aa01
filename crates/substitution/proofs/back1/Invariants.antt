use Rattle.std.proofs.Common.{◌≡◌, ◌+◌, ◌-◌, ◌*◌, ◌<◌}
use Rattle.vectors.specs.Vec.{at}
use Rattle.substitution.specs.Solved.{Carried}
use Rattle.substitution.proofs.back1.Given as goal

abbrev pub invariant-loop-i : goal.invariant-loop-i
invariant-loop-i l = (l.i < l.m) × (l.x ≡ at l.s (l.m * 2 + l.i)) × Carried 1 l.m 1 (l.m - l.i) l.initial.s l.s
