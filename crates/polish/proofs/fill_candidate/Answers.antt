use Rattle.std.proofs.Common.{arith, ◌≡◌, ◌∙◌, ◌+◌, cond, refl}
use native.Mathlib.Nat.{add-zero}
use Rattle.vectors.specs.Vec.{places_to}
use Rattle.vectors.specs.Parts.{part}
use Rattle.vectors.proofs.Laws.{none, store_more}
use Rattle.vectors.proofs.Places.{one_le}
use Rattle.active_set.specs.ActiveSet.{is_free, free_to}
use Rattle.active_set.specs.Marks.{held_by}
use Rattle.active_set.proofs.Laws.{one_if, count_more}
use Rattle.polish.specs.Polish.{candidate_at}
use Rattle.polish.proofs.Candidates.{place_is}
use Rattle.polish.proofs.fill_candidate.Goals as goal

pub loop-i-init : goal.loop-i-init
unfolding free_to places_to
loop-i-init c = (omega arith, refl, rw add-zero none)

pub loop-i-preserved : goal.loop-i-preserved
loop-i-preserved c =
    let a = c.args in
    let h = held_by a.n a.marks.now in
    let i = c.loop-i.i in
    let q = c.loop-i.q in
    let w = c.loop-i.invariant.2 in
    let e : c.from-q.result ≡ cond (is_free (h i)) 1 0 = c.from-q.ensures ∙ one_if c.is_free.result ∙ rw (c.is_free.ensures, c.from-h.ensures) in (
      omega (arith, e, one_le (is_free (h i))),
      count_more h i c.loop-i.invariant.1 e,
      store_more a.a i (candidate_at a.lam h (part a.b a.m a.s.now)) a.s.now c.loop-i.s _ w (omega arith)
          (place_is a.lam h a.b a.m i q a.s.now c.loop-i.s _ c.loop-i.invariant.1 (omega arith) (w.below (a.b + q) (omega arith)) (c.candidate_at.ensures ∙ rw c.from-h.ensures)),
    )
