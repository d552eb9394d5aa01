use borrow.Author.Tests.{eq-eqb, ne_eqb}
use Rattle.std.proofs.Common.{sym, ap, ◌∙◌, true, false, length}
use mathlib.Core.Option.{some}
use Rattle.vectors.proofs.Laws.{kept_none}
use Rattle.dual_point.specs.Lanes.{search_area}
use Rattle.questions.specs.Asking.{asking}
use Rattle.closed_paths.specs.Trends.{search_marks}
use Rattle.paths.proofs.Ways.{by_1, by_2, l1_zero, l1_high, asks_1, asks_2, took_done}
use Rattle.paths.proofs.take_path.Goals as goal

pub l2_path-requires : goal.l2_path-requires
l2_path-requires c = let q = asks_2 c.requires c.if-penalty-eq2.true in (q.l1.room, q.dual)

pub returns-then-penalty-eq2 : goal.returns-then-penalty-eq2
returns-then-penalty-eq2 c =
    let a = c.args in
    let y = a.y.now in
    let e = by_2 (asking y a.lam a.tol a.max_iter a.k a.penalty) c.if-penalty-eq2.true in
    let t = c.l2_path.ensures a.tol a.max_iter a.penalty a.cycle.now in
    rw (eq-eqb a.penalty 2 c.if-penalty-eq2.true)
    (record { says = t.says ∙ sym e; stands = t.stands; lost = λ z. t.lost (sym e ∙ z); changed = t.changed }, kept_none 0 0 a.marks.now)

pub zero_path-requires : goal.zero_path-requires
zero_path-requires c = let q = asks_1 c.requires c.if-penalty-eq2.false in (q.l1.room.series, q.dual)

pub returns-then-lam : goal.returns-then-lam
returns-then-lam c =
    let a = c.args in
    let ask = asking a.y.now a.lam a.tol a.max_iter a.k a.penalty in
    let not_2 = ne_eqb a.penalty 2 c.if-penalty-eq2.false in
    let f = c.zero_path.ensures (search_area (length a.y.now)) a.work.now a.cycle.now in
    rw not_2 (
      took_done ask ((a.lam, a.tol), (a.max_iter, a.penalty)) f (by_1 ask c.if-penalty-eq2.false ∙ ap some (l1_zero ask c.if-lam.true)),
      kept_none 0 (search_marks (length a.y.now)) a.marks.now,
    )

pub flat_path-requires : goal.flat_path-requires
flat_path-requires c = let q = asks_1 c.requires c.if-penalty-eq2.false in (q.l1, q.dual)

pub returns-then-lam_max-lam : goal.returns-then-lam_max-lam
returns-then-lam_max-lam c =
    let a = c.args in
    let ask = asking a.y.now a.lam a.tol a.max_iter a.k a.penalty in
    let not_2 = ne_eqb a.penalty 2 c.if-penalty-eq2.false in
    let high = rw c.requires.top_is at c.if-lam_max-lam.true in
    rw not_2 (
      took_done ask (a.tol, (a.max_iter, a.penalty)) c.flat_path.ensures (by_1 ask c.if-penalty-eq2.false ∙ ap some (l1_high ask true c.if-lam.false high)),
      kept_none 0 (search_marks (length a.y.now)) a.marks.now,
    )

pub search_path-requires : goal.search_path-requires
search_path-requires c = asks_1 c.requires c.if-penalty-eq2.false

pub returns-else-lam_max-lam : goal.returns-else-lam_max-lam
returns-else-lam_max-lam c =
    let a = c.args in
    let ask = asking a.y.now a.lam a.tol a.max_iter a.k a.penalty in
    let not_2 = ne_eqb a.penalty 2 c.if-penalty-eq2.false in
    let low = rw c.requires.top_is at c.if-lam_max-lam.false in
    let f = c.search_path.ensures in
    rw not_2
    (took_done ask a.penalty f.0 (by_1 ask c.if-penalty-eq2.false ∙ ap some (l1_high ask false c.if-lam.false low)), f.1)
