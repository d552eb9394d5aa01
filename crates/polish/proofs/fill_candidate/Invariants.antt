use Rattle.std.proofs.Common.{◌≡◌, ◌≤◌, ◌+◌, ◌-◌, length}
use Rattle.vectors.specs.Parts.{part, Written}
use Rattle.active_set.specs.ActiveSet.{free_to}
use Rattle.active_set.specs.Marks.{held_by}
use Rattle.polish.specs.Polish.{candidate_at}
use Rattle.polish.proofs.fill_candidate.Given as goal

abbrev pub invariant-loop-i : goal.invariant-loop-i
invariant-loop-i l =
    (l.q ≤ l.i) × (l.q ≡ length (free_to (held_by l.n l.marks) l.i))
    × Written l.a (l.a + l.i) (λ j. candidate_at l.lam (held_by l.n l.marks) (part l.b l.m l.initial.s) (j - l.a)) l.initial.s l.s
