-- The order of the doubles: of two that are no NaN either one is at most the other or above it; and what clamp leaves between -l and l. Assumes nothing.
use mathlib.Core.Path.{◌≡◌, refl, sym}
use mathlib.Core.Logic.{◌⊎◌, inl, inr, ⊎_elim}
use mathlib.Core.Bool.{Bool, true, false, cond, not, ◌&&◌, ◌||◌, true≢false}
use Prim.Native.Nat.{ℕ, ◌+◌, ◌*◌, ◌≤◌, ◌<◌}
use native.Mathlib.Nat.{eq-or-lt_of_le, eq-zero-or-pos, lt_irrefl, zero-mul}
use native.Mathlib.Omega.{arith}
use borrow.Author.Tests.{ltb-true, ltb-false, lt-ltb, le-ltb, eq-eqb, ne_eqb}
use lib.IntN.{ℤ}
use lib.Dec.{T, eqb, ltb}
use lib.Ieee.{Float, nan, inf, fin, up, down, neg, below, level, lt, le, eq, is_nan, of_bits}
use Rattle.float64.specs.Helpers.{is_finite, clamp_of}
use Rattle.float64.specs.Ops.{c0}
use Rattle.float64.proofs.Clash.{clash}

-- ---- not below is at least

pub and_off : (b : Bool) → b && false ≡ false
and_off true = refl
and_off false = refl

at_most : (p q u v : ℕ) → p ≤ q → (p ≡ q → u ≡ v) → T (ltb p q || (eqb u v && true))
at_most p q u v h e =
    ⊎_elim
    (λ (s : p ≡ q). rw (le-ltb p q (omega arith), eq-eqb u v (e s)) tt)
    (λ (l : p < q). rw (lt-ltb p q l) tt)
    (eq-or-lt_of_le h)

sides : (s t : Bool) (a b : ℕ) → below s a t b ≡ false → T (below t b s a || level t b s a)
sides false false a b h = at_most b a b a (ltb-false a b h) (λ e. e)
sides true true a b h = at_most a b b a (ltb-false b a h) sym
sides true false a b h = let z = ltb-false 0 (a + b) h in rw (eq-eqb b a (omega arith), eq-eqb b 0 (omega arith)) tt
sides false true a b h =
    ⊎_elim
    (λ (z : b + a ≡ 0). rw (le-ltb 0 (b + a) (omega arith), eq-eqb b a (omega arith), eq-eqb b 0 (omega arith)) tt)
    (λ (l : 0 < b + a). rw (lt-ltb 0 (b + a) l) tt)
    (eq-zero-or-pos (b + a))

pub not_below : (x y : Float) → is_nan x ≡ false → is_nan y ≡ false → lt x y ≡ false → T (le y x)
unfolding is_nan lt le
not_below nan y p q h = absurd (true≢false p)
not_below (inf s) nan p q h = absurd (true≢false q)
not_below (fin s m e) nan p q h = absurd (true≢false q)
not_below (inf true) (inf true) p q h = tt
not_below (inf true) (inf false) p q h = absurd (true≢false h)
not_below (inf false) (inf true) p q h = tt
not_below (inf false) (inf false) p q h = tt
not_below (inf true) (fin t n d) p q h = absurd (true≢false h)
not_below (inf false) (fin t n d) p q h = tt
not_below (fin s m e) (inf true) p q h = tt
not_below (fin s m e) (inf false) p q h = absurd (true≢false h)
not_below (fin s m e) (fin t n d) p q h = sides s t (m * up e * down d) (n * up d * down e) h

-- ---- what is above is not at most

not-at_most : (p q u v : ℕ) → q < p → (u ≡ v → p ≡ q) → ltb p q || (eqb u v && true) ≡ false
not-at_most p q u v l e = rw (le-ltb p q (omega arith), ne_eqb u v (λ s. lt_irrefl q (rw (e s) at l)))

other_sides : (s t : Bool) (a b : ℕ) → below s a t b ≡ true → below t b s a || level t b s a ≡ false
other_sides false false a b h = not-at_most b a b a (ltb-true a b h) (λ e. e)
other_sides true true a b h = not-at_most a b b a (ltb-true b a h) sym
other_sides true false a b h =
    let l = ltb-true 0 (a + b) h in
    ⊎_elim (λ (e : b ≡ 0). rw (ne_eqb b a (omega arith))) (λ (p : 0 < b). rw (ne_eqb b 0 (omega arith)) (and_off (eqb b a))) (eq-zero-or-pos b)
other_sides false true a b h = absurd (true≢false (sym h))

pub above_not-at_most : (x y : Float) → lt x y ≡ true → le y x ≡ false
unfolding lt le eq
above_not-at_most nan y h = absurd (true≢false (sym h))
above_not-at_most (inf s) nan h = absurd (true≢false (sym h))
above_not-at_most (fin s m e) nan h = absurd (true≢false (sym h))
above_not-at_most (inf true) (inf true) h = absurd (true≢false (sym h))
above_not-at_most (inf true) (inf false) h = refl
above_not-at_most (inf false) (inf t) h = absurd (true≢false (sym h))
above_not-at_most (inf true) (fin t n d) h = refl
above_not-at_most (inf false) (fin t n d) h = absurd (true≢false (sym h))
above_not-at_most (fin s m e) (inf true) h = absurd (true≢false (sym h))
above_not-at_most (fin s m e) (inf false) h = refl
above_not-at_most (fin s m e) (fin t n d) h = other_sides s t (m * up e * down d) (n * up d * down e) h

-- of two that are no NaN, y is at most x just where x is not below y
pub at_most_or_above : (x y : Float) → is_nan x ≡ false → is_nan y ≡ false → le y x ≡ not (lt x y)
at_most_or_above x y p q = go (lt x y) (le y x) refl refl
  where
    go : (a b : Bool) → lt x y ≡ a → le y x ≡ b → b ≡ not a
    go true true h g = absurd (clash g (above_not-at_most x y h))
    go true false h g = refl
    go false true h g = refl
    go false false h g = absurd (rw g at (not_below x y p q h))

-- a finite double is no NaN
pub finite_no_nan : (x : Float) → is_finite x ≡ true → is_nan x ≡ false
unfolding is_finite is_nan
finite_no_nan nan f = absurd (true≢false (sym f))
finite_no_nan (inf s) f = refl
finite_no_nan (fin s m e) f = refl

-- ---- between -l and l, where l is finite and not below 0

abbrev pub Between : Float → Float → Type 0
Between l x = T (le (neg l) x) × T (le x l)

not_under_itself : (s : Bool) (m : ℕ) (e : ℤ) → lt (fin s m e) (fin s m e) ≡ false
unfolding lt
not_under_itself true m e = le-ltb (m * up e * down e) (m * up e * down e) (omega arith)
not_under_itself false m e = le-ltb (m * up e * down e) (m * up e * down e) (omega arith)

-- neither 0 nor l is below -l
above_turned : (s : Bool) (m : ℕ) (e : ℤ) → lt (fin s m e) c0 ≡ false → (lt c0 (neg (fin s m e)) ≡ false) × (lt (fin s m e) (neg (fin s m e)) ≡ false)
unfolding lt neg of_bits
above_turned false m e h = (refl, refl)
above_turned true m e h =
    let z = ltb-false 0 (m * up e * 1 + 0 * down e) h in
    let n : m * up e ≡ 0 = omega arith in
    let w : m * up e * down e ≡ 0 = rw n (zero-mul (down e)) in
    (le-ltb (0 * down e) (m * up e * 1) (omega arith), le-ltb 0 (m * up e * down e + m * up e * down e) (omega arith))

pub zero_between : (l : Float) → is_finite l ≡ true → lt l c0 ≡ false → Between l c0
unfolding is_finite is_nan neg of_bits
zero_between nan f h = absurd (true≢false (sym f))
zero_between (inf s) f h = absurd (true≢false (sym f))
zero_between (fin s m e) f h = (not_below c0 (neg (fin s m e)) refl refl (above_turned s m e h).0, not_below (fin s m e) c0 refl refl h)

-- what lies on neither side is between, or a NaN
neither_side : (s : Bool) (m : ℕ) (e : ℤ) (x : Float) → lt x (neg (fin s m e)) ≡ false → lt (fin s m e) x ≡ false → (x ≡ nan) ⊎ Between (fin s m e) x
unfolding is_nan neg
neither_side s m e nan p q = inl refl
neither_side s m e (inf t) p q = inr (not_below (inf t) (neg (fin s m e)) refl refl p, not_below (fin s m e) (inf t) refl refl q)
neither_side s m e (fin t n d) p q = inr (not_below (fin t n d) (neg (fin s m e)) refl refl p, not_below (fin s m e) (fin t n d) refl refl q)

pub clamp_between : (z l : Float) → is_finite l ≡ true → lt l c0 ≡ false → (clamp_of z l ≡ nan) ⊎ Between l (clamp_of z l)
unfolding is_finite is_nan neg clamp_of
clamp_between z nan f h = absurd (true≢false (sym f))
clamp_between z (inf s) f h = absurd (true≢false (sym f))
clamp_between z (fin s m e) f h = go (lt z (neg (fin s m e))) (lt (fin s m e) z) refl refl
  where
    l : Float
    l = fin s m e

    turned : T (le (neg l) l)
    turned = not_below l (neg l) refl refl (above_turned s m e h).1

    go : (b c : Bool) → lt z (neg l) ≡ b → lt l z ≡ c → (cond b (neg l) (cond c l z) ≡ nan) ⊎ Between l (cond b (neg l) (cond c l z))
    go true c p q = inr (not_below (neg l) (neg l) refl refl (not_under_itself (not s) m e), turned)
    go false true p q = inr (turned, not_below l l refl refl (not_under_itself s m e))
    go false false p q = neither_side s m e z p q
