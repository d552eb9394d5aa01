use Rattle.std.proofs.Common.{sym, arith}
use Rattle.std.proofs.lemmas.Result.{err_from_is_err_and}
use Rattle.questions.specs.Asking.{asking}
use Rattle.questions.proofs.Laws.{passed}
use Rattle.closed_paths.proofs.Areas.{work_fits}
use Rattle.prepared_fit.specs.Begun.{Begins}
use Rattle.prepared_fit.proofs.Laws.{asked_refused, prepared_begins}
use Rattle.prepared_fit.proofs.begin.Goals as goal

pub returns-in_err-question : goal.returns-in_err-question
unfolding Begins
returns-in_err-question c =
    let p = err_from_is_err_and c.from_residual.result c.from_residual.ensures.1 in
    rw (p.1, p.2) (asked_refused _ _ _ _ c.in_err-question.ensures)

pub prepare-requires : goal.prepare-requires
prepare-requires c =
    let p = c.args in
    let q = passed _ _ (sym c.in_ok-question.ensures) in
    (q.series, omega (arith, q.work, work_fits (asking p.y.now p.lam p.tol p.max_iter p.order p.penalty)))

pub returns : goal.returns
returns c = rw c.ok_or.ensures.value (prepared_begins _ _ _ _ _ (sym c.in_ok-question.ensures) c.prepare.ensures)
