use Rattle.std.proofs.Common.{◌≤◌, ◌+◌}
use Rattle.vectors.specs.Vec.{KeptOf}
use Rattle.dual_point.specs.Places.{point}
use Rattle.active_set.specs.ActiveSet.{hold_at}
use Rattle.active_set.specs.Marks.{Marks}
use Rattle.active_set.proofs.mark.Given as goal

abbrev pub invariant-loop-i : goal.invariant-loop-i
invariant-loop-i l = (l.q ≤ l.i) × Marks (hold_at l.lam (point l.n l.m l.s)) l.n l.i l.marks l.q × KeptOf 0 0 (l.n + l.i) l.initial.marks l.marks
