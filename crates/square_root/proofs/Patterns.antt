-- The bit patterns of doubles above zero, and what the root of one is. Assumes nothing.
use mathlib.Core.Path.{◌≡◌, refl, sym, ap, ◌∙◌, subst}
use Prim.Native.Nat.{ℕ, zero, suc, ◌+◌, ◌*◌, ◌/◌, ◌%◌, ◌^◌, ◌≤◌, ◌<◌}
use native.Mathlib.Nat.{zero-lt-suc, lt_irrefl, lt_of_lt_of_le, mul_assoc, mul_right_comm, mul-pos, zero-mul, mul-div_cancel}
use native.Mathlib.Omega.{arith}
use mathlib.Core.Bool.{Bool, true, false, cond, true≢false}
use lib.Dec.{leb, ltb, eqb, lt→ltb, not_T, eqb→eq}
use lib.Arith.{lt→nleb}
use lib.Pow.{pow_pos, pow_mono, shl_lt}
use lib.Count.{count_trailing_zeros, under}
use lib.Ieee.{Float, nan, inf, fin, binary64, up, down, minus, odd, units, of_fields, of_bits}
use lib.Ieee.Exact.{HasValue, odd_sign}
use lib.Ieee.Fits.{down_pos}
use lib.Ieee.Bits.{is_true, is_false, cond_no}
use Rattle.square_root.specs.Sqrt.{nearest_root, sqrt_of}

-- ---- a digit more to look at changes nothing for a number that has none there

tz_more : (d q : ℕ) → 0 < q → q < 2 ^ d → count_trailing_zeros (suc d) q ≡ count_trailing_zeros d q
unfolding count_trailing_zeros
tz_more zero q p h = absurd (omega arith)
tz_more (suc d) q p h = go (q % 2) refl (λ (e : q % 2 ≡ 0). tz_more d (q / 2) (omega arith) (omega arith))
  where
    go : (r : ℕ) → q % 2 ≡ r → (q % 2 ≡ 0 → count_trailing_zeros (suc d) (q / 2) ≡ count_trailing_zeros d (q / 2)) → under r (count_trailing_zeros (suc d) (q / 2)) ≡ under r (count_trailing_zeros d (q / 2))
    go zero e ih = ap suc (ih e)
    go (suc r) e ih = refl

odd_more : (d : ℕ) (s : Bool) (q k l : ℕ) → q < 2 ^ d → odd (suc d) s q k l ≡ odd d s q k l
unfolding odd
odd_more d s zero k l h = refl
odd_more d s (suc q) k l h = ap (λ (t : ℕ). fin s (suc q / 2 ^ t) (minus (k + t) l)) (tz_more d (suc q) (zero-lt-suc q) h)

-- ---- reading a pattern with no sign

pub no_sign : (b : ℕ) → b < 2 ^ 63 → of_bits binary64 b ≡ of_fields binary64 false (b / 2 ^ 52) (b % 2 ^ 52)
unfolding of_bits
no_sign b h =
    let m : b % 2 ^ 63 ≡ b = omega arith in
    ap (λ (s : Bool). of_fields binary64 s (b % 2 ^ 63 / 2 ^ 52) (b % 2 ^ 52)) (is_false (leb (2 ^ 63) b) (lt→nleb (2 ^ 63) b h))
    ∙ ap (λ (x : ℕ). of_fields binary64 false (x / 2 ^ 52) (b % 2 ^ 52)) m

fields_small : (t : ℕ) → of_fields binary64 false 0 t ≡ odd 53 false t 0 1074
unfolding of_fields
fields_small t = refl

fields_large : (x t : ℕ) → suc x < 2047 → of_fields binary64 false (suc x) t ≡ odd 53 false (2 ^ 52 + t) x 1074
unfolding of_fields
fields_large x t h = cond_no (eqb (suc x) 2047) (cond (eqb t 0) (inf false) nan) (odd 53 false (2 ^ 52 + t) x 1074) (not_T (eqb (suc x) 2047) (λ u. let e = eqb→eq (suc x) 2047 u in omega arith))

-- a subnormal, and a normal with the exponent's field x
pub small_is : (b : ℕ) → b < 2 ^ 52 → of_bits binary64 b ≡ odd 53 false b 0 1074
small_is b h =
    let x : b / 2 ^ 52 ≡ 0 = omega arith in
    let t : b % 2 ^ 52 ≡ b = omega arith in
    no_sign b (omega arith)
    ∙ ap (λ (y : ℕ). of_fields binary64 false y (b % 2 ^ 52)) x
    ∙ fields_small (b % 2 ^ 52)
    ∙ ap (λ (y : ℕ). odd 53 false y 0 1074) t

pub large_is : (b x q : ℕ) → x < 2046 → 2 ^ 52 ≤ q → q < 2 ^ 53 → b ≡ x * 2 ^ 52 + q → of_bits binary64 b ≡ odd 53 false q x 1074
large_is b x q X l g e =
    let f : b / 2 ^ 52 ≡ suc x = omega arith in
    let t : 2 ^ 52 + b % 2 ^ 52 ≡ q = omega arith in
    no_sign b (omega arith)
    ∙ ap (λ (y : ℕ). of_fields binary64 false y (b % 2 ^ 52)) f
    ∙ fields_large x (b % 2 ^ 52) (omega arith)
    ∙ ap (λ (y : ℕ). odd 53 false y x 1074) t

-- ---- writing q * 2 ^ k units

pub units_is : (k q : ℕ) → k < 2046 → 2 ^ 52 ≤ q → q < 2 ^ 53 → of_bits binary64 (k * 2 ^ 52 + q) ≡ units binary64 false q k
unfolding units
units_is k q K l g =
    let room : 53 + k ≤ 2098 = omega arith in
    large_is (k * 2 ^ 52 + q) k q K l g refl
    ∙ sym (odd_more 53 false q k 1074 g)
    ∙ sym (ap (λ (b : Bool). cond b (odd 54 false q k 1074) (inf false)) (is_true (ltb (q * 2 ^ k) (2 ^ 2098)) (lt→ltb (q * 2 ^ k) (2 ^ 2098) (lt_of_lt_of_le (shl_lt 53 k g) (pow_mono {j = 2098} room)))))

-- ---- the root of n units

pub sqrt_of-units : (x : Float) (n : ℕ) → 0 < n → HasValue x false n (2 ^ 1074) → sqrt_of x ≡ nearest_root (n * 2 ^ 1074)
unfolding sqrt_of
sqrt_of-units nan n p v = absurd v
sqrt_of-units (inf s) n p v = absurd v
sqrt_of-units (fin true m e) n p v = absurd (true≢false v.0)
sqrt_of-units (fin false zero e) n p v = absurd (lt_irrefl 0 (subst (λ (z : ℕ). 0 < z) (sym v.1 ∙ ap (λ (z : ℕ). z * 2 ^ 1074) (zero-mul (up e)) ∙ zero-mul (2 ^ 1074)) (mul-pos p (down_pos e))))
sqrt_of-units (fin false (suc m) e) n p v =
    ap nearest_root
    (ap (λ (z : ℕ). z / down e) (sym (mul_assoc (suc m * up e) (2 ^ 1074) (2 ^ 1074)) ∙ ap (λ (z : ℕ). z * 2 ^ 1074) v.1 ∙ mul_right_comm n (down e) (2 ^ 1074))
    ∙ mul-div_cancel (n * 2 ^ 1074) (down_pos e))

pub sqrt_of_odd : (q k : ℕ) → 0 < q → sqrt_of (odd 53 false q k 1074) ≡ nearest_root (q * 2 ^ k * 2 ^ 1074)
sqrt_of_odd q k p = sqrt_of-units (odd 53 false q k 1074) (q * 2 ^ k) (mul-pos p (pow_pos k)) (odd_sign 53 false q k 1074)
