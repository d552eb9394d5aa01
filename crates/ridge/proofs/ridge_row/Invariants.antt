use Rattle.std.proofs.Common.{◌+◌, ◌-◌}
use Rattle.vectors.specs.Parts.{Written}
use Rattle.banded.specs.Rows.{placed}
use Rattle.ridge.specs.Ridge.{ridge}
use Rattle.ridge.proofs.ridge_row.Given as goal

abbrev pub invariant-loop-p : goal.invariant-loop-p
invariant-loop-p l = Written l.b (l.b + l.p) (λ q. placed l.k (ridge l.k l.c l.lam l.n) l.i (q - l.b)) l.initial.s l.s
