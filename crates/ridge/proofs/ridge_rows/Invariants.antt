use Rattle.std.proofs.Common.{List}
use Rattle.std.specs.Float.{Float}
use Rattle.banded.specs.Layout.{Laid}
use Rattle.ridge.specs.Ridge.{ridge}
use Rattle.ridge.proofs.ridge_rows.Given as goal

abbrev pub invariant-loop-i : goal.invariant-loop-i
invariant-loop-i l = (v : List Float) → Laid l.k l.from (ridge l.k l.c l.lam l.n) v l.initial.s → Laid l.k l.i (ridge l.k l.c l.lam l.n) v l.s
