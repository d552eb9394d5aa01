use Rattle.std.proofs.Common.{sym}
use Rattle.std.proofs.lemmas.Result.{err_from_is_err_and}
use Rattle.questions.proofs.Laws.{grouped, sizes_short}
use Rattle.questions.proofs.Refusals.{number_not_0}
use Rattle.questions.proofs.question.Goals as goal

pub returns-in_err-sizes : goal.returns-in_err-sizes
returns-in_err-sizes c =
    let p = err_from_is_err_and c.from_residual.result c.from_residual.ensures.1 in
    rw (p.1, p.2, grouped, ← c.in_err-sizes.ensures, number_not_0)

pub returns-in_err-values : goal.returns-in_err-values
returns-in_err-values c =
    let p = err_from_is_err_and c.from_residual-in_err-values.result c.from_residual-in_err-values.ensures.1 in
    rw (p.1, p.2, grouped, ← c.in_ok-sizes.ensures, ← c.in_err-values.ensures, number_not_0)

pub figures_of-need-requires : goal.figures_of-need-requires
figures_of-need-requires c = sizes_short _ _ _ (sym c.in_ok-sizes.ensures)

pub returns : goal.returns
returns c = rw (grouped, ← c.in_ok-sizes.ensures, ← c.in_ok-values.ensures, ← c.figures_of-need.ensures, ← c.room.ensures)
