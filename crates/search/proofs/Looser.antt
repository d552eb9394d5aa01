-- A looser tolerance costs no more steps: a gap that is at most tol·P stays so as tol grows, where P is not below 0; so of two searches alike but for tol, the one with the larger ends where the other does, or sooner.
use mathlib.Core.Path.{◌≡◌, refl, sym, ap, ◌∙◌, subst}
use Prim.Native.Nat.{ℕ, zero, suc, ◌+◌, ◌*◌, ◌≤◌, ◌<◌}
use native.Mathlib.Nat.{le_refl, le_of_eq, zero-mul, mul-zero, zero-lt-suc, mul-pos}
use native.Mathlib.Omega.{arith}
use mathlib.Core.Bool.{Bool, true, false, not, true≢false}
use lib.IntN.{ℤ}
use lib.Dec.{T, ltb, T_not, not_T, ltb→lt, lt→ltb, lit<}
use lib.Ieee.{Float, nan, inf, fin, Format, binary64, unlike, up, down, round, mul, lt, le, of_bits, is_nan}
use lib.Ieee.Bits.{is_true}
use lib.Ieee.Fits.{up_pos, down_pos}
use lib.Ieee.Order.{le_of_values}
use lib.Ieee.Scale.{round_same}
use lib.Ieee.Positive.{positive, first_pos, cross→le, through, mul_mono}
use Rattle.float64.specs.Helpers.{is_finite}
use Rattle.float64.specs.Ops.{c0}
use Rattle.search.specs.Search.{Problem, Point, Ended, start_at, enough, advance, run}
use Rattle.search.specs.Demand3.{clear}
use Rattle.search.specs.Looser.{finite_above0, not_below0, LooserSearch}
use Rattle.search.proofs.Trace.{Trace, closes, spends, stalls, loses, gains, stays, trace, steps_grow, run_small, run_spent, run_stalled, run_lost, run_moved}
use Rattle.search.proofs.Clear.{at_least0, infinite_product, scaled, awake}
use Rattle.search.proofs.Shrink.{lt-or_eq}

-- ---- the order of three values, the last two not below 0
known : (b : Bool) → (T (not b) → ⊥) → T b
known true h = tt
known false h = h tt

le_trans_clear : (g x y : Float) → T (at_least0 x) → T (at_least0 y) → T (le g x) → T (le x y) → T (le g y)
unfolding le is_nan
le_trans_clear nan x y h k t u = absurd t
le_trans_clear (inf true) x y h k t u = known (le (inf true) y) (awake (inf true) y k)
le_trans_clear (fin true l c) x y h k t u = known (le (fin true l c) y) (awake (fin true l c) y k)
le_trans_clear (inf false) nan y h k t u = absurd h
le_trans_clear (inf false) (inf true) y h k t u = absurd h
le_trans_clear (inf false) (inf false) y h k t u = u
le_trans_clear (inf false) (fin s m e) y h k t u = absurd t
le_trans_clear (fin false l c) x nan h k t u = absurd k
le_trans_clear (fin false l c) x (inf true) h k t u = absurd k
le_trans_clear (fin false l c) x (inf false) h k t u = tt
le_trans_clear (fin false l c) x (fin true n d) h k t u = absurd k
le_trans_clear (fin false l c) nan (fin false n d) h k t u = absurd h
le_trans_clear (fin false l c) (inf true) (fin false n d) h k t u = absurd h
le_trans_clear (fin false l c) (inf false) (fin false n d) h k t u = absurd u
le_trans_clear (fin false l c) (fin true m e) (fin false n d) h k t u = absurd h
le_trans_clear (fin false l c) (fin false m e) (fin false n d) h k t u =
    le_of_values (fin false l c) (fin false n d) (l * up c) (down c) (n * up d) (down d) (down_pos c) (down_pos d) (refl, refl) (refl, refl)
    (through (l * up c) (m * up e) (n * up d) (down c) (down e) (down d) (down_pos e) (lt-or_eq (l * up c * down e) (m * up e * down c) t) (lt-or_eq (m * up e * down d) (n * up d * down e) u))

-- ---- tol·P for a P that is a NaN or a zero is the same for every tol, as it is for an infinity
nan_product : (f : Format) (a : Float) → mul f a nan ≡ nan
unfolding mul
nan_product f nan = refl
nan_product f (inf s) = refl
nan_product f (fin s m e) = refl

zero-product : (f : Format) (a : Float) (s : Bool) (d : ℤ) → T (positive a) → mul f a (fin s 0 d) ≡ round f (unlike false s) 0 1
unfolding mul
zero-product f nan s d p = absurd p
zero-product f (inf t) s d p = absurd p
zero-product f (fin true m e) s d p = absurd p
zero-product f (fin false m e) s d p =
    round_same f (unlike false s) (m * up e * (0 * up d)) (down e * down d) 0 1 (mul-pos (down_pos e) (down_pos d)) (lit< tt)
    (rw (zero-mul (up d), mul-zero (m * up e), zero-mul (down e * down d)) refl)

-- ---- the stopping test
same_test : (g x y z : Float) → x ≡ z → y ≡ z → T (le g x) → T (le g y)
same_test g x y z e h = subst (λ (w : Float). T (le g w)) (e ∙ sym h)

minus_below_0 : (n : ℕ) (d : ℤ) → T (lt (fin true (suc n) d) c0)
unfolding lt of_bits
minus_below_0 n d = let h : 0 < suc n * up d * 1 = mul-pos (mul-pos (zero-lt-suc n) (up_pos d)) (lit< tt) in lt→ltb 0 (suc n * up d * 1 + 0 * down d) (omega (arith, h))

-- b is the larger tolerance, g the gap; for a P above 0 the rounding is monotone
pub enough_grows : (f : Format) (a b P g : Float) → T (positive a) → T (positive b) → T (not_below0 P) → T (le a b) → T (le g (mul f a P)) → T (le g (mul f b P))
enough_grows f a b nan g p q h t u = same_test g _ _ _ (nan_product f a) (nan_product f b) u
enough_grows f a b (inf s) g p q h t u = same_test g _ _ _ (infinite_product f a s p) (infinite_product f b s q) u
enough_grows f a b (fin s zero d) g p q h t u = same_test g _ _ _ (zero-product f a s d p) (zero-product f b s d q) u
enough_grows f a b (fin true (suc n) d) g p q h t u = absurd (T_not (lt (fin true (suc n) d) c0) h (minus_below_0 n d))
enough_grows f a b (fin false (suc n) d) g p q h t u =
    let P = fin false (suc n) d in
    let r = lt→ltb 0 (suc n) (zero-lt-suc n) in
    le_trans_clear g (mul f a P) (mul f b P) (scaled f a P p tt) (scaled f b P q tt) u (mul_mono f a b P P p q r r t (cross→le P P r r (le_refl _)))

-- ---- two searches
module _ {S : Type 0} (L : Problem S) (tol looser : Float) (grows : (p : Point S) → enough L tol p ≡ true → enough L looser p ≡ true) where
  -- b says whether the gap is small enough for the looser one: then it ends at once
  tested : {r : ℕ} {p : Point S} {e : Ended S} (b : Bool) → enough L looser p ≡ b → Trace L tol r p e → (enough L looser p ≡ false → (run L looser r p).n_iter ≤ e.n_iter) → (run L looser r p).n_iter ≤ e.n_iter
  tested {r} {p} true h w k = rw (run_small L looser r p h) (steps_grow w)
  tested false h w k = k h

  -- else it goes as the other does
  follows : {r : ℕ} {p : Point S} {e : Ended S} → Trace L tol r p e → enough L looser p ≡ false → (run L looser r p).n_iter ≤ e.n_iter
  follows (closes r p s) h = absurd (true≢false (sym (grows p s) ∙ h))
  follows (spends p s) h = le_of_eq (ap (λ (e : Ended S). e.n_iter) (run_spent L looser p h))
  follows (stalls r p s n) h = le_of_eq (ap (λ (e : Ended S). e.n_iter) (run_stalled L looser r p h n))
  follows (loses r p s n m) h = le_of_eq (ap (λ (e : Ended S). e.n_iter) (run_lost L looser r p h n m))
  follows (gains {r = r} {p = p} t s n m b w) h = rw (run_moved L looser r p t true h n m b) (tested (enough L looser (advance L p t true)) refl w (λ g. follows w g))
  follows (stays {r = r} {p = p} t s n m b w) h = rw (run_moved L looser r p t false h n m b) (tested (enough L looser (advance L p t false)) refl w (λ g. follows w g))

  sooner : {r : ℕ} {p : Point S} {e : Ended S} → Trace L tol r p e → (run L looser r p).n_iter ≤ e.n_iter
  sooner {p = p} w = tested (enough L looser p) refl w (follows w)

-- ---- what a tolerance and P are, in the words of demand 3
pub tol_positive : (x : Float) → T (finite_above0 x) → T (positive x)
unfolding is_finite lt of_bits
tol_positive nan t = t
tol_positive (inf s) t = t
tol_positive (fin true m d) t = t
tol_positive (fin false m d) t =
    let h = ltb→lt (0 * down d) (m * up d * 1) t in
    lt→ltb 0 m (first_pos m (up d) (first_pos (m * up d) 1 (omega (arith, h))))

pub clear-not_below : (x : Float) → T (clear x) → T (not_below0 x)
unfolding lt of_bits
clear-not_below nan h = tt
clear-not_below (inf true) h = absurd h
clear-not_below (inf false) h = tt
clear-not_below (fin true m e) h = absurd h
clear-not_below (fin false m e) h = not_T (ltb (m * up e * 1) (0 * down e)) (λ t. let l = ltb→lt (m * up e * 1) (0 * down e) t in omega (arith, l))

-- ---- the whole
pub looser_search : {S : Type 0} (L : Problem S) → LooserSearch L
looser_search {S} L sign tol looser p q t max_iter s =
    let grows : (x : Point S) → enough L tol x ≡ true → enough L looser x ≡ true =
    λ x e. is_true _ (enough_grows binary64 tol looser (L.primal x.state) _ (tol_positive tol p) (tol_positive looser q) (sign x.state) t (subst T (sym e) tt)) in
    let h = sooner L tol looser grows (trace L tol max_iter (start_at L s)) in
    omega (arith, h)
