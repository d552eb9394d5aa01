use Rattle.std.proofs.Common.{◌+◌, ◌-◌}
use Rattle.vectors.specs.Parts.{Written}
use Rattle.banded.specs.Rows.{placed}
use Rattle.gram.specs.Gram.{gram}
use Rattle.gram.proofs.gram_row.Given as goal

abbrev pub invariant-loop-c : goal.invariant-loop-c
invariant-loop-c l = Written l.p (l.p + l.c) (λ q. placed l.k (gram l.k l.g) l.r (q - l.p)) l.initial.s l.s
