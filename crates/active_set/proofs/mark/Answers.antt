use Rattle.std.proofs.Common.{arith, ◌≡◌, ◌∙◌, cond, ap}
use Rattle.vectors.proofs.Laws.{kept_none}
use Rattle.vectors.proofs.Places.{one_le}
use Rattle.dual_point.specs.Places.{point}
use Rattle.active_set.specs.ActiveSet.{is_free, hold_at}
use Rattle.active_set.specs.Marks.{mark_of}
use Rattle.active_set.proofs.Laws.{one_if, marks_none, marks_more, marks_kept}
use Rattle.active_set.proofs.mark.Goals as goal

pub loop-i-init : goal.loop-i-init
loop-i-init c = (omega arith, marks_none _ _ _, kept_none _ _ _)

pub loop-i-preserved : goal.loop-i-preserved
loop-i-preserved c = let w = c.loop-i.invariant.1 in
    let h = hold_at c.args.lam (point c.args.n c.args.m c.args.s.now) c.loop-i.i in
    let t : c.into.result ≡ mark_of h = c.into.ensures ∙ ap mark_of c.hold_at-h.ensures in
    let e : c.from-q.result ≡ cond (is_free h) 1 0 = c.from-q.ensures ∙ one_if c.is_free.result ∙ rw (c.is_free.ensures, c.hold_at-h.ensures) in
    (omega (arith, e, one_le (is_free h)), marks_more w (omega arith) (omega arith) t _ e, marks_kept w (omega arith) (omega arith) t c.loop-i.invariant.2)
