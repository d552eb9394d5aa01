-- What a search went through, as a value to do inductions on: `Trace L tol r p e` says that from p, with r iterations allowed, it ends in e.
-- And for a loop that runs the search: one equation for each way an iteration can go.
use mathlib.Core.Path.{◌≡◌, refl, sym, ap, ◌∙◌, subst}
use Prim.Native.Nat.{ℕ, zero, suc, ◌+◌, ◌*◌, ◌≤◌}
use native.Mathlib.Nat.{le_refl, le_trans, le-suc}
use native.Mathlib.Omega.{arith}
use mathlib.Core.Bool.{Bool, true, false, not, cond}
use lib.Dec.{T, T_not, eqb, lit≤}
use lib.Arith.{le_of_le-suc-ne}
use lib.Ieee.Fits.{eq→eqb}
use lib.Ieee.{Float}
use Rattle.search.specs.declared.Reason.TheVariants.{GapSmall, LimitSpent, Stalled, PivotLost}
use Rattle.search.specs.Search.{Turn, lost, moved, Problem, Point, Ended, Next, stop, go, gap, ended, enough, stuck, improved, advance, turned, iterate, run}

-- the end of an iteration that a bad pivot ends
abbrev pub after_loss : {S : Type 0} → Point S → Ended S
after_loss p = record { state = p.state; n_iter = suc p.n_iter; first = p.first; best = p.best; improvements = p.improvements; reason = PivotLost }

-- ---- one equation for each way an iteration can go
abbrev follow : {S : Type 0} → Problem S → Float → ℕ → Next S → Ended S
follow L tol r (stop e) = e
follow L tol r (go q) = run L tol r q

module _ {S : Type 0} (L : Problem S) (tol : Float) where
  run-next : (r : ℕ) (p : Point S) → run L tol (suc r) p ≡ follow L tol r (iterate L tol p)
  unfolding run
  run-next r p = same (iterate L tol p)
    where
      same : (x : Next S) → (elim x as (λ y. Ended S) [ stop e ↦ e | go q ↦ run L tol r q ]) ≡ follow L tol r x
      same (stop e) = refl
      same (go q) = refl

  run-zero : (p : Point S) → run L tol zero p ≡ ended p (cond (enough L tol p) GapSmall LimitSpent)
  unfolding run
  run-zero p = refl

  small_next : (p : Point S) → enough L tol p ≡ true → iterate L tol p ≡ stop (ended p GapSmall)
  unfolding iterate
  small_next p e = ap (λ (b : Bool). cond b (stop (ended p GapSmall)) (cond (stuck p) (stop (ended p Stalled)) (turned L p (L.move (gap L p.state) p.state)))) e

  wide_next : (p : Point S) (b : Bool) → enough L tol p ≡ false → stuck p ≡ b → iterate L tol p ≡ cond b (stop (ended p Stalled)) (turned L p (L.move (gap L p.state) p.state))
  unfolding iterate
  wide_next p b e f =
      ap (λ (x : Bool). cond x (stop (ended p GapSmall)) (cond (stuck p) (stop (ended p Stalled)) (turned L p (L.move (gap L p.state) p.state)))) e
      ∙ ap (λ (x : Bool). cond x (stop (ended p Stalled)) (turned L p (L.move (gap L p.state) p.state))) f

  turn_next : (r : ℕ) (p : Point S) (x : Turn S) → enough L tol p ≡ false → stuck p ≡ false → L.move (gap L p.state) p.state ≡ x → run L tol (suc r) p ≡ follow L tol r (turned L p x)
  turn_next r p x e f m = run-next r p ∙ ap (follow L tol r) (wide_next p false e f) ∙ ap (λ (y : Turn S). follow L tol r (turned L p y)) m

  -- the gap is small enough: whatever the limit allows
  pub run_small : (r : ℕ) (p : Point S) → enough L tol p ≡ true → run L tol r p ≡ ended p GapSmall
  run_small zero p e = run-zero p ∙ ap (λ (b : Bool). ended p (cond b GapSmall LimitSpent)) e
  run_small (suc r) p e = run-next r p ∙ ap (follow L tol r) (small_next p e)

  -- the limit allows no more
  pub run_spent : (p : Point S) → enough L tol p ≡ false → run L tol zero p ≡ ended p LimitSpent
  run_spent p e = run-zero p ∙ ap (λ (b : Bool). ended p (cond b GapSmall LimitSpent)) e

  -- the stall count is 10
  pub run_stalled : (r : ℕ) (p : Point S) → enough L tol p ≡ false → stuck p ≡ true → run L tol (suc r) p ≡ ended p Stalled
  run_stalled r p e f = run-next r p ∙ ap (follow L tol r) (wide_next p true e f)

  -- a bad pivot
  pub run_lost : (r : ℕ) (p : Point S) → enough L tol p ≡ false → stuck p ≡ false → L.move (gap L p.state) p.state ≡ lost → run L tol (suc r) p ≡ after_loss p
  run_lost r p e f m = turn_next r p lost e f m

  -- a step, b says whether it is an improvement
  pub run_moved : (r : ℕ) (p : Point S) (t : S) (b : Bool) → enough L tol p ≡ false → stuck p ≡ false → L.move (gap L p.state) p.state ≡ moved t → improved L p t ≡ b → run L tol (suc r) p ≡ run L tol r (advance L p t b)
  run_moved r p t b e f m w = turn_next r p (moved t) e f m ∙ ap (λ (x : Bool). run L tol r (advance L p t x)) w

-- ---- the trace
pub data Trace {S : Type 0} (L : Problem S) (tol : Float) : ℕ → Point S → Ended S → Type 0 where
  closes : (r : ℕ) (p : Point S) → enough L tol p ≡ true → Trace L tol r p (ended p GapSmall)
  spends : (p : Point S) → enough L tol p ≡ false → Trace L tol zero p (ended p LimitSpent)
  stalls : (r : ℕ) (p : Point S) → enough L tol p ≡ false → stuck p ≡ true → Trace L tol (suc r) p (ended p Stalled)
  loses : (r : ℕ) (p : Point S) → enough L tol p ≡ false → stuck p ≡ false → L.move (gap L p.state) p.state ≡ lost → Trace L tol (suc r) p (after_loss p)
  gains : {r : ℕ} {p : Point S} {e : Ended S} (t : S) → enough L tol p ≡ false → stuck p ≡ false → L.move (gap L p.state) p.state ≡ moved t → improved L p t ≡ true → Trace L tol r (advance L p t true) e → Trace L tol (suc r) p e
  stays : {r : ℕ} {p : Point S} {e : Ended S} (t : S) → enough L tol p ≡ false → stuck p ≡ false → L.move (gap L p.state) p.state ≡ moved t → improved L p t ≡ false → Trace L tol r (advance L p t false) e → Trace L tol (suc r) p e

module _ {S : Type 0} (L : Problem S) (tol : Float) where
  -- every run has its trace
  by_improved : (r : ℕ) (p : Point S) (t : S) (b : Bool) → enough L tol p ≡ false → stuck p ≡ false → L.move (gap L p.state) p.state ≡ moved t → improved L p t ≡ b
      → Trace L tol r (advance L p t b) (run L tol r (advance L p t b)) → Trace L tol (suc r) p (run L tol r (advance L p t b))
  by_improved r p t true e f m w tr = gains t e f m w tr
  by_improved r p t false e f m w tr = stays t e f m w tr

  by_turn : (r : ℕ) (p : Point S) (x : Turn S) → enough L tol p ≡ false → stuck p ≡ false → L.move (gap L p.state) p.state ≡ x
      → ((q : Point S) → Trace L tol r q (run L tol r q)) → Trace L tol (suc r) p (follow L tol r (turned L p x))
  by_turn r p lost e f m ih = loses r p e f m
  by_turn r p (moved t) e f m ih = by_improved r p t (improved L p t) e f m refl (ih (advance L p t (improved L p t)))

  by_stall : (r : ℕ) (p : Point S) (b : Bool) → enough L tol p ≡ false → stuck p ≡ b
      → ((q : Point S) → Trace L tol r q (run L tol r q)) → Trace L tol (suc r) p (follow L tol r (cond b (stop (ended p Stalled)) (turned L p (L.move (gap L p.state) p.state))))
  by_stall r p true e f ih = stalls r p e f
  by_stall r p false e f ih = by_turn r p (L.move (gap L p.state) p.state) e f refl ih

  by_test : (r : ℕ) (p : Point S) (b : Bool) → enough L tol p ≡ b → ((q : Point S) → Trace L tol r q (run L tol r q)) → Trace L tol (suc r) p (run L tol (suc r) p)
  by_test r p true e ih = subst (λ (x : Ended S). Trace L tol (suc r) p x) (sym (run_small L tol (suc r) p e)) (closes (suc r) p e)
  by_test r p false e ih =
      subst (λ (x : Ended S). Trace L tol (suc r) p x)
      (sym (run-next L tol r p ∙ ap (follow L tol r) (wide_next L tol p (stuck p) e refl)))
      (by_stall r p (stuck p) e refl ih)

  by_limit : (p : Point S) (b : Bool) → enough L tol p ≡ b → Trace L tol zero p (run L tol zero p)
  by_limit p true e = subst (λ (x : Ended S). Trace L tol zero p x) (sym (run_small L tol zero p e)) (closes zero p e)
  by_limit p false e = subst (λ (x : Ended S). Trace L tol zero p x) (sym (run_spent L tol p e)) (spends p e)

  pub trace : (r : ℕ) (p : Point S) → Trace L tol r p (run L tol r p)
  trace zero p = by_limit p (enough L tol p) refl
  trace (suc r) p = by_test r p (enough L tol p) refl (trace r)

  -- and a trace is of the run
  pub traced : {r : ℕ} {p : Point S} {e : Ended S} → Trace L tol r p e → run L tol r p ≡ e
  traced (closes r p e) = run_small L tol r p e
  traced (spends p e) = run_spent L tol p e
  traced (stalls r p e f) = run_stalled L tol r p e f
  traced (loses r p e f m) = run_lost L tol r p e f m
  traced (gains {r = r} {p = p} t e f m w tr) = run_moved L tol r p t true e f m w ∙ traced tr
  traced (stays {r = r} {p = p} t e f m w tr) = run_moved L tol r p t false e f m w ∙ traced tr

-- ---- the counts
module _ {S : Type 0} {L : Problem S} {tol : Float} where
  pub steps_grow : {r : ℕ} {p : Point S} {e : Ended S} → Trace L tol r p e → p.n_iter ≤ e.n_iter
  steps_grow (closes r p e) = le_refl p.n_iter
  steps_grow (spends p e) = le_refl p.n_iter
  steps_grow (stalls r p e f) = le_refl p.n_iter
  steps_grow (loses r p e f m) = le-suc p.n_iter
  steps_grow (gains {p = p} t e f m w tr) = le_trans (le-suc p.n_iter) (steps_grow tr)
  steps_grow (stays {p = p} t e f m w tr) = le_trans (le-suc p.n_iter) (steps_grow tr)

  pub steps_within : {r : ℕ} {p : Point S} {e : Ended S} → Trace L tol r p e → e.n_iter ≤ p.n_iter + r
  steps_within (closes r p e) = omega arith
  steps_within (spends p e) = omega arith
  steps_within (stalls r p e f) = omega arith
  steps_within (loses r p e f m) = omega arith
  steps_within (gains t e f m w tr) = let h = steps_within tr in omega arith
  steps_within (stays t e f m w tr) = let h = steps_within tr in omega arith

  -- the first gap stays
  pub first_stays : {r : ℕ} {p : Point S} {e : Ended S} → Trace L tol r p e → e.first ≡ p.first
  first_stays (closes r p e) = refl
  first_stays (spends p e) = refl
  first_stays (stalls r p e f) = refl
  first_stays (loses r p e f m) = refl
  first_stays (gains t e f m w tr) = first_stays tr
  first_stays (stays t e f m w tr) = first_stays tr

-- ---- what every iteration keeps
abbrev pub Led : {S : Type 0} → (S → Type 0) → Turn S → Type 0
Led I lost = T true
Led I (moved t) = I t

module _ {S : Type 0} {L : Problem S} {tol : Float} (I : S → Type 0) (keeps : (x : Float) (s : S) → I s → Led I (L.move x s)) where
  pub kept_to_end : {r : ℕ} {p : Point S} {e : Ended S} → Trace L tol r p e → I p.state → I e.state
  kept_to_end (closes r p e) h = h
  kept_to_end (spends p e) h = h
  kept_to_end (stalls r p e f) h = h
  kept_to_end (loses r p e f m) h = h
  kept_to_end (gains t e f m w tr) h = kept_to_end tr (subst (Led I) m (keeps _ _ h))
  kept_to_end (stays t e f m w tr) h = kept_to_end tr (subst (Led I) m (keeps _ _ h))

-- ---- ten idle iterations for each improvement, and ten more
not_ten : (n : ℕ) → n ≤ 10 → eqb n 10 ≡ false → n ≤ 9
not_ten n h f = le_of_le-suc-ne h (λ (e : n ≡ 10). T_not (eqb n 10) (subst (λ (x : Bool). T (not x)) (sym f) tt) (eq→eqb e))

-- a stall count that does not end the search can rise
pub idle_room : (n : ℕ) → n ≤ 10 → eqb n 10 ≡ false → suc n ≤ 10
idle_room n h f = let z = not_ten n h f in omega arith

module _ {S : Type 0} {L : Problem S} {tol : Float} where
  pub idle : {r : ℕ} {p : Point S} {e : Ended S} → Trace L tol r p e → p.stall ≤ 10 → p.n_iter ≤ 10 * p.improvements + p.stall → e.n_iter ≤ 10 * e.improvements + 10
  idle (closes r p e) h g = omega arith
  idle (spends p e) h g = omega arith
  idle (stalls r p e f) h g = omega arith
  idle (loses r p e f m) h g = let z = not_ten p.stall h f in omega arith
  idle (gains {p = p} t e f m w tr) h g = let z = not_ten p.stall h f in idle tr (lit≤ tt) (omega arith)
  idle (stays {p = p} t e f m w tr) h g = let z = not_ten p.stall h f in idle tr (omega arith) (omega arith)
