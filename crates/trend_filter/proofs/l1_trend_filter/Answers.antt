use Rattle.std.proofs.Common.{◌≡◌, ap, arith}
use Rattle.std.specs.Prelude.{Some, None, Ok}
use Rattle.std.proofs.lemmas.Result.{err_from_is_err_and}
use Rattle.questions.specs.declared.Refusal.TheVariants.{BadPivot}
use Rattle.questions.specs.Asking.{asking}
use Rattle.trend_filter.specs.Answers.{lent, buffers}
use Rattle.trend_filter.proofs.Laws.{stops, readies, answered_refused, told_of, asks-fit, answered-fit}
use Rattle.trend_filter.proofs.l1_trend_filter.Goals as goal

pub returns-in_err-lam_max : goal.returns-in_err-lam_max
returns-in_err-lam_max c =
    let p = c.args in
    let o = p.opts in
    let a = asking p.y.now p.lam o.tol o.max_iter o.order o.penalty in
    let b = buffers p.trend.now p.cycle.now p.knots.now p.dual.now p.work.now p.marks.now in
    let e = err_from_is_err_and c.from_residual.result c.from_residual.ensures.1 in
    rw (e.1, e.2) (answered_refused a b _ _ (stops {a = a} {l = lent b} c.in_err-lam_max.ensures))

pub fit_prepared-requires : goal.fit_prepared-requires
fit_prepared-requires c =
    let p = c.args in
    let o = p.opts in
    let a = asking p.y.now p.lam o.tol o.max_iter o.order o.penalty in
    let b = buffers p.trend.now p.cycle.now p.knots.now p.dual.now p.work.now p.marks.now in
    asks-fit a b _ _ (readies {a = a} {l = lent b} c.in_ok-lam_max.ensures)

pub returns-in_err-t : goal.returns-in_err-t
returns-in_err-t c =
    let p = c.args in
    let o = p.opts in
    let a = asking p.y.now p.lam o.tol o.max_iter o.order o.penalty in
    let b = buffers p.trend.now p.cycle.now p.knots.now p.dual.now p.work.now p.marks.now in
    let e = err_from_is_err_and c.from_residual-in_err-t.result c.from_residual-in_err-t.ensures.1 in
    let none : c.fit_prepared.result ≡ None = grind arith in
    let bad : c.in_err-t.field-0.0 ≡ BadPivot = grind arith in
    rw (e.1, e.2, bad) (answered-fit a b _ _ (readies {a = a} {l = lent b} c.in_ok-lam_max.ensures) _ _ _ _ _ (rw none) c.fit_prepared.ensures)

pub returns : goal.returns
returns c =
    let p = c.args in
    let o = p.opts in
    let a = asking p.y.now p.lam o.tol o.max_iter o.order o.penalty in
    let b = buffers p.trend.now p.cycle.now p.knots.now p.dual.now p.work.now p.marks.now in
    let some : c.fit_prepared.result ≡ Some c.in_ok-t.t = grind arith in
    let told : Ok c.summed.result ≡ told_of c.in_ok-lam_max.lam_max (Some c.in_ok-t.t) = ap Ok c.summed.ensures in
    answered-fit a b _ _ (readies {a = a} {l = lent b} c.in_ok-lam_max.ensures) _ _ _ _ _ (rw some told) c.fit_prepared.ensures
