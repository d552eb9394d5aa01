-- The double that `round` names for a fraction a / b: its count in units of 2 ^ -1074, that there is no tie, and that every other count is further away.
-- Assumes nothing.
use mathlib.Core.Path.{◌≡◌, refl, sym, ap, ◌∙◌, subst}
use mathlib.Core.Logic.{inl, inr}
use Prim.Native.Nat.{ℕ, zero, suc, ◌+◌, ◌-◌, ◌*◌, ◌/◌, ◌%◌, ◌^◌, ◌≤◌, ◌<◌, ◌∣◌, compare, Ordering}
use native.Mathlib.Nat.{eq-zero-or-pos, zero-mul, le_trans, le_of_eq, lt_of_le_of_lt, mul-one, mul_assoc, mul_right_comm, mul-le-mul, mul-le-mul_left, mul-le-mul_right, mul-lt-mul_of_pos_right, mul-pos, eq_of_mul-eq-mul_right, pow-suc, mod-lt, div-add-mod', div-div-eq-div-mul, div-lt_iff_lt-mul, le-div_iff_mul-le, dvd-mul_left, dvd-mul_right, dvd-mul_right_of_dvd, dvd-sub, le_of_dvd}
use native.Mathlib.Omega.{arith}
use mathlib.Core.Bool.{Bool}
use lib.Dec.{lit<, lit≤}
use lib.Arith.{lt_of_le-ne}
use lib.Pow.{pow-add, pow_pos, pow_mono}
use lib.Ieee.{Float, binary64, size, nearest, round}
use lib.Ieee.Digits.{size-le, size_reaches}
use lib.Ieee.Exact.{HasValue, units_val}
use lib.Ieee.Fits.{kept-lt, nearest-le, round_is}
use lib.Ieee.Positive.{first_pos}
use lib.Ieee.Scale.{normal_of_fraction}
use Rattle.float64.proofs.Doubles.{Grid}
use Rattle.float64.proofs.Spacing.{Cmp, cmp, gap}
use Rattle.vectors.specs.Vec.{apart}

-- ---- an odd number that divides x * 2 ^ j divides x

odd_divides : (q x j : ℕ) → 2 * q + 1 ∣ x * 2 ^ j → 2 * q + 1 ∣ x
odd_divides q x zero h = subst (λ (y : ℕ). 2 * q + 1 ∣ y) (mul-one x) h
odd_divides q x (suc j) h =
    let d = 2 * q + 1 in
    let y = x * 2 ^ j in
    let twice : d ∣ y * 2 = subst (λ (w : ℕ). d ∣ w) (ap (λ (w : ℕ). x * w) (pow-suc 2 j) ∙ sym (mul_assoc x (2 ^ j) 2)) h in
    let once : y * d - y * 2 * q ≡ y = omega arith in
    odd_divides q x j (subst (λ (w : ℕ). d ∣ w) once (dvd-sub d (dvd-mul_left d y) (dvd-mul_right_of_dvd d twice q)))

-- ---- m is the count nearest to n / c: every other count of a double is further away

abbrev pub NearestCount : ℕ → ℕ → ℕ → Type 0
NearestCount n c m = (z : ℕ) → Grid z → (z ≡ m → ⊥) → apart n (m * c) < apart n (z * c)

pub zero_nearest : (c : ℕ) → 0 < c → NearestCount 0 c 0
zero_nearest c h z g d = elim (eq-zero-or-pos z) [ inl e ↦ absurd (d e) | inr p ↦ omega (arith, zero-mul c, mul-pos p h) ]

-- what has the other sign is further than zero, unless it is zero
pub across : (n c m z : ℕ) → 0 < c → NearestCount n c m → (m ≡ 0 → z ≡ 0 → ⊥) → apart n (m * c) < n + z * c
across n c zero z h near d = elim (eq-zero-or-pos z) [ inl e ↦ absurd (d refl e) | inr p ↦ omega (arith, zero-mul c, mul-pos p h) ]
across n c (suc m) z h near d = omega (arith, zero-mul c, near 0 (0, 0, lit< tt, refl) (λ (e : 0 ≡ suc m). omega arith))

-- it is the nearer of q * 2 ^ k and the next double, where n / c lies between them, with r left over, and is not a tie
between : (n c q k r : ℕ) (o : Ordering) → 0 < c → 2 ^ 52 ≤ q → q * (c * 2 ^ k) + r ≡ n → r < c * 2 ^ k → Cmp o (r * 2) (c * 2 ^ k) → (r * 2 ≡ c * 2 ^ k → ⊥)
    → NearestCount n c (nearest q o * 2 ^ k)
between n c q k r Ordering.lt h l e b o t z g d =
    elim (gap q k z l g) [
      | inl v ↦ omega (arith, mul-lt-mul_of_pos_right (lt_of_le-ne v d) h)
      | inr v ↦ omega (arith, mul-le-mul_right c v)
    ]
between n c q k r Ordering.eq h l e b o t z g d = absurd (t o)
between n c q k r Ordering.gt h l e b o t z g d =
    elim (gap q k z l g) [
      | inl v ↦ omega (arith, mul-le-mul_right c v)
      | inr v ↦ omega (arith, mul-lt-mul_of_pos_right (lt_of_le-ne v (λ (x : suc q * 2 ^ k ≡ z). d (sym x))) h)
    ]

-- ---- a / b rounded, in units: `round` drops the digits after the 53 leading ones, and `leading` is the number that these make

abbrev count : ℕ → ℕ
count a = a * 2 ^ 1074

abbrev dropped : ℕ → ℕ → ℕ
dropped a b = size (count a / b) - 53

abbrev unit : ℕ → ℕ → ℕ
unit a b = b * 2 ^ dropped a b

abbrev leading : ℕ → ℕ → ℕ
leading a b = count a / unit a b

abbrev digits : ℕ → ℕ → ℕ
digits a b = nearest (leading a b) (compare (count a % unit a b * 2) (unit a b))

abbrev pub rounded : ℕ → ℕ → ℕ
rounded a b = digits a b * 2 ^ dropped a b

-- where a / b is u / v, a tie would make 2 * q + 1 a divisor of u times a power of two
tie : (a b u v l p q r : ℕ) → 0 < b → u * b ≡ a * v → q * (b * p) + r ≡ a * l → r * 2 ≡ b * p → u * (l * 2) ≡ (2 * q + 1) * (v * p)
tie a b u v l p q r h e f t = eq_of_mul-eq-mul_right b h (u * (l * 2)) ((2 * q + 1) * (v * p)) (omega (arith, ap (λ (x : ℕ). x * l) e, ap (λ (x : ℕ). x * v) f, ap (λ (x : ℕ). x * v) t))

-- so with an u of 53 digits at most there is none, if b is not so large that fewer than 53 digits are kept
module _ (a b u v : ℕ) (a-pos : 0 < a) (b_pos : 0 < b) (b-le : b ≤ 2 ^ 1022) (v-pos : 0 < v) (u-lt : u < 2 ^ 53) (e : u * b ≡ a * v) where
  kept_all : 53 ≤ size (count a / b)
  kept_all = normal_of_fraction binary64 a b b_pos (le_trans (mul-le-mul_left (2 ^ 52) b-le) (le_trans (lit≤ tt) (mul-le-mul_right (2 ^ 1074) a-pos)))

  leading_ge : 2 ^ 52 ≤ leading a b
  leading_ge =
      let d = dropped a b in
      let h : 52 + d < size (count a / b) = omega (arith, kept_all) in
      subst (λ (x : ℕ). 2 ^ 52 ≤ x) (div-div-eq-div-mul (count a) b (2 ^ d))
      ((le-div_iff_mul-le (pow_pos d)).1 (le_trans (le_of_eq (sym (pow-add 2 52 d))) (size_reaches (count a / b) (52 + d) h)))

  no_tie : count a % unit a b * 2 ≡ unit a b → ⊥
  no_tie t =
      let q = leading a b in
      let h : u * 2 ^ 1075 ≡ (2 * q + 1) * (v * 2 ^ dropped a b) = tie a b u v (2 ^ 1074) (2 ^ dropped a b) q (count a % unit a b) b_pos e (div-add-mod' (count a) (unit a b)) t in
      let divides : 2 * q + 1 ∣ u = odd_divides q u 1075 (subst (λ (x : ℕ). 2 * q + 1 ∣ x) (sym h) (dvd-mul_right (2 * q + 1) (v * 2 ^ dropped a b))) in
      omega (arith, leading_ge, u-lt, le_of_dvd (first_pos u b (subst (λ (x : ℕ). 0 < x) (sym e) (mul-pos a-pos v-pos))) divides)

  pub rounded_nearest : NearestCount (count a) b (rounded a b)
  rounded_nearest =
      let r = count a % unit a b in
      between (count a) b (leading a b) (dropped a b) r (compare (r * 2) (unit a b)) b_pos leading_ge (div-add-mod' (count a) (unit a b)) (mod-lt (count a) (mul-pos b_pos (pow_pos (dropped a b)))) (cmp (r * 2) (unit a b)) no_tie

  -- u / v is below 2 ^ 53, so nothing overflows
  dropped_le : dropped a b ≤ 1074
  dropped_le =
      let below : a < 2 ^ 53 * b = lt_of_le_of_lt (le_trans (le_of_eq (sym (mul-one a))) (le_trans (mul-le-mul_left a v-pos) (le_of_eq (sym e)))) (mul-lt-mul_of_pos_right u-lt b_pos) in
      omega (arith, size-le (count a / b) 1127 ((div-lt_iff_lt-mul b_pos).1 (subst (λ (x : ℕ). count a < x) (mul_right_comm (2 ^ 53) b (2 ^ 1074)) (mul-lt-mul_of_pos_right below (pow_pos 1074)))))

  digits_le : digits a b ≤ 2 ^ 53
  digits_le =
      le_trans (nearest-le (leading a b) (compare (count a % unit a b * 2) (unit a b)))
      (subst (λ (x : ℕ). x < 2 ^ 53) (div-div-eq-div-mul (count a) b (2 ^ dropped a b)) (kept-lt 53 (count a / b)))

  pub rounded_value : (s : Bool) → HasValue (round binary64 s a b) s (rounded a b) (2 ^ 1074)
  rounded_value s =
      subst (λ (x : Float). HasValue x s (rounded a b) (2 ^ 1074)) (sym (round_is binary64 s a b))
      (units_val binary64 s (digits a b) (dropped a b) (lt_of_le_of_lt (mul-le-mul digits_le (pow_mono {j = 1074} dropped_le)) (lit< tt)))
