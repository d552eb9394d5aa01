-- Facts of the small helpers: which value a test `x != x` finds, what is finite and lies between the infinities, and the sign cleared by 0 - x. Assumes nothing.
use mathlib.Core.Path.{◌≡◌, refl, sym, ap, ap₂, ◌∙◌, subst}
use Prim.Native.Nat.{ℕ, zero, suc, ◌+◌, ◌-◌, ◌*◌, ◌^◌, ◌<◌}
use native.Mathlib.Nat.{zero-mul, one-mul, mul-one, mul-pos, zero-lt-suc, pow-succ'}
use native.Mathlib.Omega.{arith}
use mathlib.Core.Bool.{Bool, true, false, not, true≢false}
use lib.IntN.{ℤ, pos, negsuc}
use lib.Dec.{T, ltb, lt→ltb, eqb→eq}
use lib.Pow.{pow_pos}
use lib.Ieee.{Float, nan, inf, fin, binary64, up, down, round, sum, add, sub, neg, lt, ne, fits, is_nan, of_bits, nan_bits}
use lib.Ieee.Compare.{differs_from_itself}
use lib.Ieee.Fits.{up_pos, down_pos, neg-fits}
use lib.Ieee.Bits.{is_true}
use Rattle.std.specs.Float.{float_is_finite}
use Rattle.float64.specs.Helpers.{abs_of, is_finite}
use Rattle.float64.proofs.Doubles.{round_double}

-- ---- NaN, by `x != x`

pub is_nan_lem : (x : Float) → ne x x ≡ true → x ≡ nan
is_nan_lem x e = differs_from_itself x (subst T (sym e) tt)

pub nan_true : (x : Float) → ne x x ≡ true → is_nan x ≡ true
unfolding is_nan
nan_true x e = rw (is_nan_lem x e)

pub nan_false : (x : Float) → ne x x ≡ false → is_nan x ≡ false
unfolding is_nan ne
nan_false nan e = e
nan_false (inf s) e = refl
nan_false (fin s m d) e = refl

pub no_nan : (x : Float) → ne x x ≡ false → T (not (is_nan x))
no_nan x e = rw (nan_false x e) tt

-- ---- finite, by std's word

pub finite_is : (x : Float) → is_finite x ≡ float_is_finite x
unfolding is_finite float_is_finite
finite_is nan = refl
finite_is (inf s) = refl
finite_is (fin s m e) = refl

-- ---- between the infinities

pub not_above : (x : Float) → lt (neg (of_bits binary64 0x7ff0_0000_0000_0000)) x ≡ false → is_finite x ≡ false
unfolding lt neg of_bits is_finite
not_above nan e = refl
not_above (inf s) e = refl
not_above (fin s m d) e = e

pub above_then : (x : Float) → lt (neg (of_bits binary64 0x7ff0_0000_0000_0000)) x ≡ true → lt x (of_bits binary64 0x7ff0_0000_0000_0000) ≡ is_finite x
unfolding lt neg of_bits is_finite
above_then nan e = refl
above_then (inf true) e = sym e
above_then (inf false) e = refl
above_then (fin s m d) e = refl

pub top_no_nan : T (not (nan_bits binary64 0x7ff0_0000_0000_0000))
unfolding nan_bits
top_no_nan = tt

-- ---- the sign cleared, by 0 - x and a comparison

-- 0 + b / c, rounded once
sum-zero : (t : Bool) (a b c : ℕ) → a ≡ 0 → 0 < b → sum binary64 false a t b c ≡ round binary64 t b c
unfolding sum
sum-zero false a b c e p = let s : a + b ≡ b = omega arith in rw s
sum-zero true a b c e p =
    let s : b - a ≡ b = omega arith in
    rw (is_true (ltb a b) (lt→ltb a b (omega arith)), s)

-- 0 - x turns the sign of a double that is not 0
minus_of : (s : Bool) (m : ℕ) (e : ℤ) → T (fits binary64 (fin s (suc m) e)) → sub binary64 (of_bits binary64 0) (fin s (suc m) e) ≡ fin (not s) (suc m) e
unfolding sub add neg of_bits
minus_of s m e f =
    let n : 0 * 1 * down e ≡ 0 = zero-mul (down e) in
    let a : suc m * up e * 1 ≡ suc m * up e = mul-one (suc m * up e) in
    let c : 1 * down e ≡ down e = one-mul (down e) in
    sum-zero (not s) (0 * 1 * down e) (suc m * up e * 1) (1 * down e) n (rw a (mul-pos (zero-lt-suc m) (up_pos e)))
    ∙ ap₂ (round binary64 (not s)) a c
    ∙ round_double (not s) (suc m) e (neg-fits binary64 (fin s (suc m) e) f)

-- 0 - 0 is +0 for either 0
minus_zero : (s : Bool) (e : ℤ) → T (fits binary64 (fin s zero e)) → sub binary64 (of_bits binary64 0) (fin s zero e) ≡ fin false zero e
unfolding sub add neg sum round of_bits fits
minus_zero true (pos zero) f = refl
minus_zero false (pos zero) f = refl
minus_zero s (pos (suc a)) f = absurd (omega (arith, pow-succ' 2 a, pow_pos a, eqb→eq (2 ^ suc a * 1) 1 f))
minus_zero s (negsuc a) f = absurd (omega (arith, pow-succ' 2 a, pow_pos a, eqb→eq (1 * 2 ^ suc a) 1 f))

-- where 0 - x is below x, x is its own size
pub abs_kept : (x : Float) → T (fits binary64 x) → lt (sub binary64 (of_bits binary64 0) x) x ≡ true → x ≡ abs_of x
unfolding abs_of sub add neg of_bits lt
abs_kept nan f h = refl
abs_kept (inf true) f h = absurd (true≢false (sym h))
abs_kept (inf false) f h = refl
abs_kept (fin true zero e) f h = absurd (true≢false (sym h ∙ ap (λ (n : Float). lt n (fin true zero e)) (minus_zero true e f)))
abs_kept (fin true (suc m) e) f h = absurd (true≢false (sym h ∙ ap (λ (n : Float). lt n (fin true (suc m) e)) (minus_of true m e f)))
abs_kept (fin false m e) f h = refl

-- and elsewhere 0 - x is
pub abs_turned : (x : Float) → T (fits binary64 x) → lt (sub binary64 (of_bits binary64 0) x) x ≡ false → sub binary64 (of_bits binary64 0) x ≡ abs_of x
unfolding abs_of sub add neg of_bits lt
abs_turned nan f h = refl
abs_turned (inf true) f h = refl
abs_turned (inf false) f h = absurd (true≢false h)
abs_turned (fin s zero e) f h = minus_zero s e f
abs_turned (fin true (suc m) e) f h = minus_of true m e f
abs_turned (fin false (suc m) e) f h =
    let n = suc m * up e * down e in
    let size : 0 < n + n = omega (arith, mul-pos (mul-pos (zero-lt-suc m) (up_pos e)) (down_pos e)) in
    absurd (true≢false (sym (ap (λ (n : Float). lt n (fin false (suc m) e)) (minus_of false m e f) ∙ is_true (ltb 0 (n + n)) (lt→ltb 0 (n + n) size)) ∙ h))
