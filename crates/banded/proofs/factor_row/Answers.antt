use Rattle.std.proofs.Common.{◌≡◌, ◌+◌, refl, arith}
use Rattle.banded.proofs.Laws.{within, one_row, row_none, row_more}
use Rattle.banded.proofs.factor_row.Goals as goal

pub overflow_mul-b : goal.overflow_mul-b
overflow_mul-b c = omega (arith, one_row c.args.k c.args.r)

pub loop-c-init : goal.loop-c-init
loop-c-init c = row_none

pub loop-c-preserved : goal.loop-c-preserved
loop-c-preserved c =
    row_more _ c.loop-c.invariant (omega arith) refl (within c.args.k c.args.r c.args.r c.loop-c.c _ (omega arith) (omega arith) (omega arith)) c.factor_entry.ensures

pub returns : goal.returns
returns c =
    let e : c.loop-c.c ≡ c.args.k + 1 = omega arith in
    rw e at c.loop-c.invariant
