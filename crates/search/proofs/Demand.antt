-- Demand 3 holds of every problem whose primal objective is a NaN or has a clear sign.
use mathlib.Core.Path.{◌≡◌, refl, sym, subst}
use mathlib.Core.Logic.{◌⊎◌, inl, inr}
use Prim.Native.Nat.{ℕ, zero, suc, ◌+◌, ◌-◌, ◌*◌, ◌≤◌, ◌<◌, zero-le}
use native.Mathlib.Omega.{arith}
use mathlib.Core.Bool.{Bool, true, false, not, ◌||◌}
use lib.Signed.{≤ℤ_refl}
use lib.IntN.{pos, ◌*ℤ◌}
use lib.Dec.{T}
use lib.Ieee.{Float, nan, inf, fin, binary64, mul, lt, is_nan, of_bits}
use lib.Ieee.Fits.{sub-fits}
use lib.Ieee.Positive.{positive, above}
use Rattle.float64.specs.Ops.{c0·99}
use Rattle.search.specs.declared.Reason.{Reason}
use Rattle.search.specs.declared.Reason.TheVariants.{ClosedPath, LimitSpent}
use Rattle.search.specs.Search.{Problem, Point, Ended, gap, start_at, enough, improved, searched}
use Rattle.search.specs.Bounds.{units, Bounded}
use Rattle.search.specs.Reasons.{at_limit}
use Rattle.search.specs.Demand3.{BoundedEnd, retold, SearchDemand3, clear}
use Rattle.search.proofs.Trace.{Trace, closes, spends, stalls, loses, gains, stays, trace, traced, steps_grow, steps_within, first_stays, idle}
use Rattle.search.proofs.Falls.{Falls, here, lower, finite_of, falls_whole, few_improvements}
use Rattle.float64.proofs.Clash.{impossible}
use Rattle.search.proofs.Clear.{goes_on}

is_on : (b : Bool) → b ≡ true → T b
is_on b e = subst T (sym e) tt

is_off : (b : Bool) → b ≡ false → T (not b)
is_off b e = subst (λ (x : Bool). T (not x)) (sym e) tt

-- no gap is below 0.99 times a NaN
nan_never : (g : Float) → T (lt g (mul binary64 c0·99 nan)) → ⊥
unfolding lt mul of_bits
nan_never nan t = t
nan_never (inf s) t = t
nan_never (fin s m e) t = t

above_of : (g b : Float) → T (is_nan b || above b) → T (lt g (mul binary64 c0·99 b)) → T (above b)
unfolding is_nan
above_of g nan h t = absurd (nan_never g t)
above_of g (inf s) h t = h
above_of g (fin s m e) h t = h

-- the best gap is a NaN or above zero, or else the gap of the state at hand, which is yet to be tested
abbrev Live : {S : Type 0} → Problem S → Point S → Type 0
Live L p = T (is_nan p.best || above p.best) ⊎ (p.best ≡ gap L p.state)

module _ {S : Type 0} (L : Problem S) (tol : Float) (tol-pos : T (positive tol)) (sign : (s : S) → T (clear (L.primal s))) where
  awake : (p : Point S) → Live L p → enough L tol p ≡ false → T (is_nan p.best || above p.best)
  awake p (inl h) s = h
  awake p (inr e) s =
      subst (λ (b : Float). T (is_nan b || above b)) (sym e)
      (goes_on binary64 tol (L.primal p.state) (L.dual p.state) tol-pos (sign p.state) (is_off (enough L tol p) s))

  falls : {a : Float} {r : ℕ} {p : Point S} {e : Ended S} → Trace L tol r p e → Live L p → Falls a p.improvements p.best → Falls a e.improvements e.best
  falls (closes r p s) v f = f
  falls (spends p s) v f = f
  falls (stalls r p s n) v f = f
  falls (loses r p s n m) v f = f
  falls (gains {p = p} t s n m b tr) v f =
      let l = is_on (improved L p t) b in falls tr (inr refl) (lower (gap L t) f (above_of (gap L t) p.best (awake p v s) l) l (sub-fits binary64 (L.primal t) (L.dual t)))
  falls (stays {p = p} t s n m b tr) v f = falls tr (inl (awake p v s)) f

  improvements : (max_iter : ℕ) (s : S) → Falls (searched L tol max_iter s).first (searched L tol max_iter s).improvements (searched L tol max_iter s).best
  improvements max_iter s =
      let t = trace L tol max_iter (start_at L s) in
      subst (λ (a : Float). Falls a (searched L tol max_iter s).improvements (searched L tol max_iter s).best) (sym (first_stays t))
      (falls t (inr refl) (here (sub-fits binary64 (L.primal s) (L.dual s))))

  within_limit : (max_iter : ℕ) (s : S) → (searched L tol max_iter s).n_iter ≤ max_iter
  within_limit max_iter s = let h = steps_within (trace L tol max_iter (start_at L s)) in omega arith

  within_ten : (max_iter : ℕ) (s : S) → (searched L tol max_iter s).n_iter ≤ 10 * (searched L tol max_iter s).improvements + 10
  within_ten max_iter s = idle (trace L tol max_iter (start_at L s)) zero-le zero-le

  gains_few : (max_iter : ℕ) (s : S) → (searched L tol max_iter s).improvements ≤ 144763
  gains_few max_iter s = few_improvements (improvements max_iter s)

  pub bounded : (max_iter : ℕ) (s : S) → BoundedEnd max_iter (searched L tol max_iter s)
  bounded max_iter s = record {
    limit = within_limit max_iter s;
    ten = within_ten max_iter s;
    few = gains_few max_iter s;
    shrunk = λ p q. falls_whole (improvements max_iter s) (finite_of (searched L tol max_iter s).first p) (finite_of (searched L tol max_iter s).best q);
  }

  steps_few : (max_iter : ℕ) (s : S) → (searched L tol max_iter s).n_iter ≤ 1447640
  steps_few max_iter s = let h = within_ten max_iter s in let g = gains_few max_iter s in omega arith

-- ---- the same search under another limit

-- the reason where a limit leaves j iterations
abbrev leaving : ℕ → Reason → Reason
leaving zero r = at_limit r
leaving (suc j) r = r

module _ {S : Type 0} {L : Problem S} {tol : Float} where
  -- a spent limit: every iteration that it allows was made
  all_made : {r : ℕ} {p : Point S} {e : Ended S} → Trace L tol r p e → e.reason ≡ LimitSpent → e.n_iter ≡ p.n_iter + r
  all_made (closes r p s) q = impossible cc
  all_made (spends p s) q = omega arith
  all_made (stalls r p s n) q = impossible cc
  all_made (loses r p s n m) q = impossible cc
  all_made (gains t s n m b tr) q = let h = all_made tr q in omega arith
  all_made (stays t s n m b tr) q = let h = all_made tr q in omega arith

  -- a search that is made is no closed path
  not-closed : {r : ℕ} {p : Point S} {e : Ended S} → Trace L tol r p e → e.reason ≡ ClosedPath → ⊥
  not-closed (closes r p s) q = impossible cc
  not-closed (spends p s) q = impossible cc
  not-closed (stalls r p s n) q = impossible cc
  not-closed (loses r p s n m) q = impossible cc
  not-closed (gains t s n m b tr) q = not-closed tr q
  not-closed (stays t s n m b tr) q = not-closed tr q

  -- another limit, which leaves j iterations where it ended: the same, but perhaps the reason
  again : {r : ℕ} {p : Point S} {e : Ended S} (k j : ℕ) → Trace L tol r p e → (e.reason ≡ LimitSpent → ⊥) → e.n_iter + j ≡ p.n_iter + k → Trace L tol k p (retold e (leaving j e.reason))
  again k zero (closes r p s) h g = closes k p s
  again k (suc j) (closes r p s) h g = closes k p s
  again k j (spends p s) h g = absurd (h refl)
  again zero zero (stalls r p s n) h g = spends p s
  again zero (suc j) (stalls r p s n) h g = absurd (omega arith)
  again (suc k) zero (stalls r p s n) h g = absurd (omega arith)
  again (suc k) (suc j) (stalls r p s n) h g = stalls k p s n
  again zero j (loses r p s n m) h g = absurd (omega arith)
  again (suc k) zero (loses r p s n m) h g = loses k p s n m
  again (suc k) (suc j) (loses r p s n m) h g = loses k p s n m
  again zero j (gains t s n m b tr) h g = let z = steps_grow tr in absurd (omega arith)
  again (suc k) j (gains t s n m b tr) h g = gains t s n m b (again k j tr h (omega arith))
  again zero j (stays t s n m b tr) h g = let z = steps_grow tr in absurd (omega arith)
  again (suc k) j (stays t s n m b tr) h g = stays t s n m b (again k j tr h (omega arith))

module _ {S : Type 0} (L : Problem S) (tol : Float) (s : S) where
  spent : (max_iter : ℕ) → (searched L tol max_iter s).reason ≡ LimitSpent → (searched L tol max_iter s).n_iter ≡ max_iter
  spent max_iter q = let h = all_made (trace L tol max_iter (start_at L s)) q in omega arith

  alike : (max_iter other : ℕ) → ((searched L tol max_iter s).reason ≡ LimitSpent → ⊥) → (searched L tol max_iter s).n_iter < other → searched L tol other s ≡ searched L tol max_iter s
  alike max_iter other h g = traced L tol (again other (suc (other - suc (searched L tol max_iter s).n_iter)) (trace L tol max_iter (start_at L s)) h (omega (arith, g)))

  at_limit_lem : (max_iter : ℕ) → ((searched L tol max_iter s).reason ≡ LimitSpent → ⊥)
      → searched L tol (searched L tol max_iter s).n_iter s ≡ retold (searched L tol max_iter s) (at_limit (searched L tol max_iter s).reason)
  at_limit_lem max_iter h = traced L tol (again (searched L tol max_iter s).n_iter 0 (trace L tol max_iter (start_at L s)) h (omega arith))

  pub never_closed : (max_iter : ℕ) → (searched L tol max_iter s).reason ≡ ClosedPath → ⊥
  never_closed max_iter = not-closed (trace L tol max_iter (start_at L s))

-- ---- the whole
pub demand3 : {S : Type 0} (L : Problem S) (tol : Float) → T (positive tol) → ((s : S) → T (clear (L.primal s))) → (s : S) → SearchDemand3 L tol s
demand3 L tol p q s = record {
  bounded = λ max_iter. bounded L tol p q max_iter s;
  spent = spent L tol s;
  alike = alike L tol s;
  at_limit = at_limit_lem L tol s;
  settled = λ max_iter other h g.
      let k = steps_few L tol p q max_iter s in
      alike L tol s max_iter other (λ e. let z = spent L tol s max_iter e in absurd (omega arith)) (omega arith);
}

-- the closed paths: no iteration, no improvement, and the first and best gap are the gap, whatever it is
pub bounded_closed : (max_iter : ℕ) (g : Float) → Bounded max_iter 0 0 g g
bounded_closed max_iter g = record { limit = zero-le; ten = zero-le; few = zero-le; shrunk = λ p q. ≤ℤ_refl (units g *ℤ pos 1) }
