use Rattle.std.proofs.Common.{◌+◌, ◌-◌, ◌*◌}
use Rattle.vectors.specs.Parts.{Written}
use Rattle.banded.specs.Rows.{placed}
use Rattle.active_set.specs.ActiveSet.{compressed}
use Rattle.active_set.proofs.system.fill_row.Given as goal

abbrev pub invariant-loop-c : goal.invariant-loop-c
invariant-loop-c l = Written (l.p * (l.k + 1)) (l.p * (l.k + 1) + l.c) (λ j. placed l.k (compressed l.k l.g l.free) l.p (j - l.p * (l.k + 1))) l.initial.s l.s
