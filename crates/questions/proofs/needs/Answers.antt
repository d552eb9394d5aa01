use Rattle.std.proofs.Common.{sym, ◌∙◌}
use Rattle.std.proofs.lemmas.Result.{err_from_is_err_and}
use Rattle.questions.specs.Beforehand.{needed}
use Rattle.questions.proofs.Laws.{grouped_first, sizes_short}
use Rattle.questions.proofs.Refusals.{number_not_0}
use Rattle.questions.proofs.needs.Goals as goal

pub returns-in_err-sizes : goal.returns-in_err-sizes
unfolding needed
returns-in_err-sizes c =
    let p = err_from_is_err_and c.from_residual.result c.from_residual.ensures.1 in
    rw (p.1, p.2, grouped_first, ← c.in_err-sizes.ensures, number_not_0, number_not_0)

pub returns-then-not-limit_right : goal.returns-then-not-limit_right
unfolding needed
returns-then-not-limit_right c = rw (grouped_first, ← c.in_ok-sizes.ensures, sym c.limit_right.ensures ∙ c.if-not-limit_right.true)

pub figures_of-requires : goal.figures_of-requires
figures_of-requires c = sizes_short _ _ _ (sym c.in_ok-sizes.ensures)

pub returns : goal.returns
unfolding needed
returns c = rw (grouped_first, ← c.in_ok-sizes.ensures, sym c.limit_right.ensures ∙ c.if-not-limit_right.false, c.figures_of.ensures)
