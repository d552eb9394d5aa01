use Rattle.std.proofs.Common.{◌+◌, ◌-◌, get_or}
use Rattle.vectors.specs.Parts.{Written}
use Rattle.active_set.specs.ActiveSet.{compressed_rhs_at}
use Rattle.active_set.specs.Marks.{held_by}
use Rattle.active_set.proofs.system.fill_right.Given as goal

abbrev pub invariant-loop-p : goal.invariant-loop-p
invariant-loop-p l = Written l.b (l.b + l.p) (λ j. compressed_rhs_at l.k l.g l.dy l.lam (held_by l.n l.marks) (l.n - l.k) (get_or l.marks (j - l.b) 0)) l.initial.s l.s
