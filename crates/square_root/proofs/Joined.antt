-- The bits of a root, put together: from the root of the significand, and for each kind of pattern. Assumes nothing.
use mathlib.Core.Path.{◌≡◌, refl, sym, ap, ◌∙◌, subst}
use Prim.Native.Nat.{ℕ, zero, suc, ◌+◌, ◌-◌, ◌*◌, ◌/◌, ◌%◌, ◌^◌, ◌≤◌, ◌<◌}
use native.Mathlib.Nat.{mul_assoc, mul-one, mul-pos, zero-mul, lt_irrefl}
use native.Mathlib.Omega.{arith}
use mathlib.Core.Bool.{Bool, true, false, not, cond}
use lib.Dec.{T, leb, eqb, le→leb}
use lib.Pow.{pow-add, pow_pos}
use lib.Ieee.{Float, nan, inf, fin, binary64, up, odd, of_fields, of_bits}
use lib.Ieee.Exact.{HasValue, odd_sign}
use lib.Ieee.Fits.{down_pos}
use lib.Ieee.Bits.{is_true}
use Rattle.square_root.specs.Sqrt.{nearest_root, sqrt_of, isqrt}
use Rattle.square_root.specs.Parts.{rounded_root, Bits}
use Rattle.square_root.proofs.Root.{isqrt_root, nearest_root-at}
use Rattle.square_root.proofs.Rounded.{root_in, rounded_ge, rounded_lt}
use Rattle.square_root.proofs.Patterns.{no_sign, small_is, large_is, units_is, sqrt_of_odd}

-- ---- the root of n = w * 2 ^ 52 * 4 ^ k

pub joined : (n w k : ℕ) → 2 ^ 52 ≤ w → w + 2 ≤ 2 ^ 54 → k < 2046 → n ≡ w * 2 ^ 52 * (2 ^ k * 2 ^ k) → Bits (nearest_root n) (k * 2 ^ 52 + rounded_root (w * 2 ^ 52))
joined n w k a b K e =
    let r = rounded_root (w * 2 ^ 52) in
    let l : 2 ^ 52 ≤ r = rounded_ge w a b in
    let g : r < 2 ^ 53 = rounded_lt w a b in
    record {
      value = units_is k r K l g ∙ sym (nearest_root-at (w * 2 ^ 52) k (isqrt (w * 2 ^ 52)) (isqrt_root (w * 2 ^ 52)) (root_in w a b).0 (root_in w a b).1) ∙ ap nearest_root (sym e);
      finite = omega arith;
    }

power : (c e k : ℕ) → e ≡ c + (k + k) → 2 ^ e ≡ 2 ^ c * (2 ^ k * 2 ^ k)
power c e k h = ap (λ (x : ℕ). 2 ^ x) h ∙ pow-add 2 c (k + k) ∙ ap (λ (x : ℕ). 2 ^ c * x) (pow-add 2 k k)

pub even : (m e k : ℕ) → e ≡ 52 + (k + k) → m * 2 ^ e ≡ m * 2 ^ 52 * (2 ^ k * 2 ^ k)
even m e k h = ap (λ (x : ℕ). m * x) (power 52 e k h) ∙ sym (mul_assoc m (2 ^ 52) (2 ^ k * 2 ^ k))

pub odd_one : (m e k : ℕ) → e ≡ 53 + (k + k) → m * 2 ^ e ≡ m * 2 * 2 ^ 52 * (2 ^ k * 2 ^ k)
odd_one m e k h = ap (λ (x : ℕ). m * x) (power 53 e k h) ∙ sym (mul_assoc m (2 ^ 53) (2 ^ k * 2 ^ k)) ∙ ap (λ (x : ℕ). x * (2 ^ k * 2 ^ k)) (sym (mul_assoc m 2 (2 ^ 52)))

-- ---- the root by the pattern

shifted : (a k l e : ℕ) → k + l ≡ e → a * 2 ^ k * 2 ^ l ≡ a * 2 ^ e
shifted a k l e h = mul_assoc a (2 ^ k) (2 ^ l) ∙ ap (λ (x : ℕ). a * x) (sym (pow-add 2 k l) ∙ ap (λ (x : ℕ). 2 ^ x) h)

pub small_root : (b s : ℕ) → 0 < b → b < 2 ^ 52 → s ≤ 52 → sqrt_of (of_bits binary64 b) ≡ nearest_root (b * 2 ^ s * 2 ^ (1074 - s))
small_root b s p h g =
    let e : s + (1074 - s) ≡ 1074 = omega arith in
    ap sqrt_of (small_is b h) ∙ sqrt_of_odd b 0 p ∙ ap nearest_root (ap (λ (x : ℕ). x * 2 ^ 1074) (mul-one b) ∙ sym (shifted b s (1074 - s) 1074 e))

pub large_root : (b : ℕ) → 2 ^ 52 ≤ b → b < 2047 * 2 ^ 52 → sqrt_of (of_bits binary64 b) ≡ nearest_root ((b % 2 ^ 52 + 2 ^ 52) * 2 ^ (b / 2 ^ 52 + 1073))
large_root b l g =
    let x = b / 2 ^ 52 - 1 in
    let q = b % 2 ^ 52 + 2 ^ 52 in
    let e : x + 1074 ≡ b / 2 ^ 52 + 1073 = omega arith in
    ap sqrt_of (large_is b x q (omega arith) (omega arith) (omega arith) (omega arith)) ∙ sqrt_of_odd q x (omega arith) ∙ ap nearest_root (shifted q x 1074 (b / 2 ^ 52 + 1073) e)

-- ---- patterns whose root is no number: those below zero, and +infinity with the NaNs above it

below_zero : (x : Float) (n c : ℕ) → 0 < n → HasValue x true n c → sqrt_of x ≡ nan
unfolding sqrt_of
below_zero nan n c p v = refl
below_zero (inf s) n c p v = absurd v
below_zero (fin false m e) n c p v = absurd (no v.0)
  where
    no : false ≡ true → ⊥
    no h = subst (λ (b : Bool). T (not b)) h tt
below_zero (fin true zero e) n c p v = absurd (lt_irrefl 0 (subst (λ (z : ℕ). 0 < z) (sym v.1 ∙ ap (λ (z : ℕ). z * c) (zero-mul (up e)) ∙ zero-mul c) (mul-pos p (down_pos e))))
below_zero (fin true (suc m) e) n c p v = refl

fields_below : (x t : ℕ) → 0 < x * 2 ^ 52 + t → sqrt_of (of_fields binary64 true x t) ≡ nan
unfolding of_fields sqrt_of
fields_below zero t p = below_zero (odd 53 true t 0 1074) (t * 1) (2 ^ 1074) (omega arith) (odd_sign 53 true t 0 1074)
fields_below (suc x) t p = go (eqb (suc x) 2047) (eqb t 0)
  where
    go : (a b : Bool) → sqrt_of (cond a (cond b (inf true) nan) (odd 53 true (2 ^ 52 + t) x 1074)) ≡ nan
    go true true = refl
    go true false = refl
    go false b = below_zero (odd 53 true (2 ^ 52 + t) x 1074) ((2 ^ 52 + t) * 2 ^ x) (2 ^ 1074) (mul-pos (omega arith) (pow_pos x)) (odd_sign 53 true (2 ^ 52 + t) x 1074)

pub negative_root : (b : ℕ) → 2 ^ 63 < b → b < 2 ^ 64 → sqrt_of (of_bits binary64 b) ≡ nan
unfolding of_bits
negative_root b l g =
    ap (λ (s : Bool). sqrt_of (of_fields binary64 s (b % 2 ^ 63 / 2 ^ 52) (b % 2 ^ 52))) (is_true (leb (2 ^ 63) b) (le→leb (2 ^ 63) b (omega arith)))
    ∙ fields_below (b % 2 ^ 63 / 2 ^ 52) (b % 2 ^ 52) (omega arith)

fields_top : (t : ℕ) → of_fields binary64 false 2047 t ≡ sqrt_of (of_fields binary64 false 2047 t)
unfolding of_fields sqrt_of
fields_top t = go (eqb t 0)
  where
    go : (b : Bool) → cond b (inf false) nan ≡ sqrt_of (cond b (inf false) nan)
    go true = refl
    go false = refl

pub top_root : (b : ℕ) → 2047 * 2 ^ 52 ≤ b → b < 2 ^ 63 → of_bits binary64 b ≡ sqrt_of (of_bits binary64 b)
top_root b l g =
    let x : b / 2 ^ 52 ≡ 2047 = omega arith in
    let e : of_bits binary64 b ≡ of_fields binary64 false 2047 (b % 2 ^ 52) = no_sign b g ∙ ap (λ (y : ℕ). of_fields binary64 false y (b % 2 ^ 52)) x in
    e ∙ fields_top (b % 2 ^ 52) ∙ ap sqrt_of (sym e)
