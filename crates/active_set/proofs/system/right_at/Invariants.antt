use Rattle.std.proofs.Common.{◌≡◌, ◌-◌}
use Rattle.vectors.specs.Vec.{at}
use Rattle.active_set.specs.ActiveSet.{less_to}
use Rattle.active_set.specs.Marks.{held_by}
use Rattle.active_set.proofs.system.right_at.Given as goal

abbrev pub invariant-loop-j : goal.invariant-loop-j
invariant-loop-j l = l.v ≡ less_to l.lam l.g (held_by l.n l.marks) l.i l.initial.j (at l.dy l.i) (l.j - l.initial.j)
