-- The double that `nearest_root` names, and how far the others are from the root of n. Assumes nothing.
use mathlib.Core.Path.{◌≡◌, refl, sym, ap, ◌∙◌, subst}
use mathlib.Core.Logic.{inl, inr}
use Prim.Native.Nat.{ℕ, suc, ◌+◌, ◌-◌, ◌*◌, ◌/◌, ◌^◌, ◌≤◌, ◌<◌, zero-le, compare, Ordering}
use native.Mathlib.Nat.{le_trans, le_of_lt, le_of_eq, le_of_suc-le-suc, lt_of_lt_of_le, lt_of_le_of_lt, lt_of_not-le, not-le_of_lt, zero-lt-suc, mul-le-mul, mul-le-mul_right, mul-le-mul_left, mul-pos, mul_assoc, mul_right_comm, mul-mul-mul_comm, mul-lt-mul_of_pos_right, eq_of_mul-eq-mul_right, le-div_iff_mul-le, div-lt_iff_lt-mul}
use native.Mathlib.Omega.{arith}
use mathlib.Core.Bool.{false}
use lib.IntN.{ℤ}
use lib.Dec.{T, ltb, lt→ltb, lit≤, lit<}
use lib.Pow.{pow-add, pow_pos, pow_mono}
use lib.Ieee.{Float, binary64, up, down, size, nearest, units, fits}
use lib.Ieee.Digits.{size-lt, size_reaches, size-le}
use lib.Ieee.Exact.{HasValue, units_val}
use lib.Ieee.Fits.{up_pos, down_pos, nearest-le, odd-fits}
use lib.Ieee.Bits.{is_true}
use Rattle.square_root.specs.Sqrt.{isqrt, nearest_root}
use Rattle.float64.specs.Units.{in_units}
use Rattle.square_root.proofs.Root.{Root, sq_back, isqrt_root}
use Rattle.float64.proofs.Doubles.{Grid, Fit}
use Rattle.float64.proofs.Spacing.{Cmp, cmp, spaced, gap, value_units}

-- r is nearer to the root of n than any other z: the half way between the two, (r + z) / 2, lies beyond the root. Both sides are
-- squared, and multiplied by 4.
pub record Nearer (n r z : ℕ) : Type 0 where
  pub from_below : z < r → (r + z) * (r + z) < 4 * n
  pub from_above : r < z → 4 * n < (r + z) * (r + z)

-- ---- squares

sq_lt : (a b : ℕ) → a < b → a * a < b * b
sq_lt a b h = lt_of_le_of_lt (mul-le-mul_left a (le_of_lt h)) (mul-lt-mul_of_pos_right h (lt_of_le_of_lt zero-le h))

under_root : (n a z : ℕ) → a * a ≤ n → z < a → (a + z) * (a + z) < 4 * n
under_root n a z h g = omega (arith, sq_lt (a + z) (a + a) (omega arith))

over_root : (n a z : ℕ) → n < a * a → a < z → 4 * n < (a + z) * (a + z)
over_root n a z h g = omega (arith, sq_lt (a + a) (a + z) (omega arith))

-- ---- a root between q * 2 ^ k and the next double

module _ (n q k : ℕ) (lo : q * 2 ^ k * (q * 2 ^ k) ≤ n) (hi : n < suc q * 2 ^ k * (suc q * 2 ^ k)) (l : 2 ^ 52 ≤ q) where
  -- twice the half way
  abbrev mid : ℕ
  mid = (2 * q + 1) * 2 ^ k

  middle : mid ≡ q * 2 ^ k + suc q * 2 ^ k
  middle = omega arith

  stays : (z : ℕ) → Grid z → 4 * n < mid * mid → Nearer n (q * 2 ^ k) z
  stays z g h = record {
    from_below = under_root n (q * 2 ^ k) z lo;
    from_above = λ u. elim (gap q k z l g) [
      | inl v ↦ absurd (not-le_of_lt u v)
      | inr v ↦ let w : mid ≤ q * 2 ^ k + z = omega (arith, middle, v) in lt_of_lt_of_le h (mul-le-mul w w)
    ];
  }

  moves : (z : ℕ) → Grid z → mid * mid < 4 * n → Nearer n (suc q * 2 ^ k) z
  moves z g h = record {
    from_below = λ u. elim (gap q k z l g) [
      | inl v ↦ let w : suc q * 2 ^ k + z ≤ mid = omega (arith, middle, v) in lt_of_le_of_lt (mul-le-mul w w) h
      | inr v ↦ absurd (not-le_of_lt u v)
    ];
    from_above = over_root n (suc q * 2 ^ k) z hi;
  }

  -- there is no tie: n has too many zeros
  no_tie : Grid n → 4 * n ≡ mid * mid → ⊥
  no_tie g e =
      let p = 2 ^ k * 2 ^ k in
      let big : 2 ^ 52 * 2 ^ 52 * p ≤ n = le_trans (mul-le-mul_right p (mul-le-mul l l)) (le_trans (le_of_eq (omega arith)) lo) in
      let double : 2 ^ (52 + (k + k)) ≡ 2 ^ 52 * p = pow-add 2 52 (k + k) ∙ ap (λ (x : ℕ). 2 ^ 52 * x) (pow-add 2 k k) in
      let s = spaced n (52 + (k + k)) g (subst (λ (x : ℕ). 2 ^ 52 * x ≤ n) (sym double) (le_trans (le_of_eq (sym (mul_assoc (2 ^ 52) (2 ^ 52) p))) big)) in
      let c = s.0 in
      let f : 4 * (c * 2 ^ 52) * p ≡ (2 * q + 1) * (2 * q + 1) * p = omega (arith, s.1 ∙ ap (λ (x : ℕ). c * x) double, e) in
      let even : 4 * (c * 2 ^ 52) ≡ (2 * q + 1) * (2 * q + 1) = eq_of_mul-eq-mul_right p (mul-pos (pow_pos k) (pow_pos k)) (4 * (c * 2 ^ 52)) ((2 * q + 1) * (2 * q + 1)) f in
      omega arith

  nearer : (o : Ordering) (z : ℕ) → Grid n → Grid z → Cmp o (4 * n) (mid * mid) → Nearer n (nearest q o * 2 ^ k) z
  nearer Ordering.lt z g w h = stays z w h
  nearer Ordering.eq z g w h = absurd (no_tie g h)
  nearer Ordering.gt z g w h = moves z w h

-- ---- the root of n, for the n that doubles give

-- `nearest_root`, from its k and its q on
pub kept : ℕ → ℕ
kept n = (size n + 1) / 2 - 53

pub lead : ℕ → ℕ
unfolding kept
lead n = isqrt (n / (2 ^ kept n * 2 ^ kept n))

pub digits : ℕ → ℕ
unfolding kept lead
digits n = nearest (lead n) (compare (4 * n) ((2 * lead n + 1) * 2 ^ kept n * ((2 * lead n + 1) * 2 ^ kept n)))

nearest_root_is : (n : ℕ) → nearest_root n ≡ units binary64 false (digits n) (kept n)
unfolding nearest_root digits
nearest_root_is n = refl

module _ (n : ℕ) (a : 2 ^ 104 ≤ n) (b : n < 2 ^ 3172) where
  size_in : (104 + (kept n + kept n) < size n) × (size n ≤ 106 + (kept n + kept n)) × (kept n ≤ 1533)
  unfolding kept
  size_in =
      let h : 104 < size n = lt_of_not-le (λ (g : size n ≤ 104). not-le_of_lt (size-lt n) (le_trans (pow_mono g) a)) in
      let g : size n ≤ 3172 = size-le n 3172 b in
      omega arith

  kept_le : kept n ≤ 1533
  kept_le = size_in.2

  pow_two : 0 < 2 ^ kept n * 2 ^ kept n
  pow_two = mul-pos (pow_pos (kept n)) (pow_pos (kept n))

  power : (c : ℕ) → 2 ^ (c + (kept n + kept n)) ≡ 2 ^ c * (2 ^ kept n * 2 ^ kept n)
  power c = pow-add 2 c (kept n + kept n) ∙ ap (λ (x : ℕ). 2 ^ c * x) (pow-add 2 (kept n) (kept n))

  is_lead : Root (n / (2 ^ kept n * 2 ^ kept n)) (lead n)
  unfolding lead
  is_lead = isqrt_root (n / (2 ^ kept n * 2 ^ kept n))

  lead_ge : 2 ^ 52 ≤ lead n
  lead_ge =
      le_of_suc-le-suc (sq_back (2 ^ 52) (suc (lead n))
      (lt_of_le_of_lt ((le-div_iff_mul-le pow_two).1 (le_trans (le_of_eq (sym (power 104))) (size_reaches n (104 + (kept n + kept n)) size_in.0))) is_lead.1))

  lead_lt : lead n < 2 ^ 53
  lead_lt =
      sq_back (lead n) (2 ^ 53)
      (lt_of_le_of_lt is_lead.0 ((div-lt_iff_lt-mul pow_two).1 (lt_of_lt_of_le (size-lt n) (le_trans (pow_mono size_in.1) (le_of_eq (power 106))))))

  above_lead : lead n * 2 ^ kept n * (lead n * 2 ^ kept n) ≤ n
  above_lead = le_trans (le_of_eq (mul-mul-mul_comm (lead n) (2 ^ kept n) (lead n) (2 ^ kept n))) ((le-div_iff_mul-le pow_two).0 is_lead.0)

  below_next : n < suc (lead n) * 2 ^ kept n * (suc (lead n) * 2 ^ kept n)
  below_next = lt_of_lt_of_le ((div-lt_iff_lt-mul pow_two).0 is_lead.1) (le_of_eq (sym (mul-mul-mul_comm (suc (lead n)) (2 ^ kept n) (suc (lead n)) (2 ^ kept n))))

  digits_le : digits n ≤ 2 ^ 53
  unfolding digits
  digits_le = le_trans (nearest-le (lead n) (compare (4 * n) ((2 * lead n + 1) * 2 ^ kept n * ((2 * lead n + 1) * 2 ^ kept n)))) lead_lt

  in_range : digits n * 2 ^ kept n < 2 ^ 2098
  in_range = lt_of_le_of_lt (mul-le-mul digits_le (pow_mono {j = 1533} kept_le)) (lit< tt)

  pub root_value : HasValue (nearest_root n) false (digits n * 2 ^ kept n) (2 ^ 1074)
  root_value = subst (λ (x : Float). HasValue x false (digits n * 2 ^ kept n) (2 ^ 1074)) (sym (nearest_root_is n)) (units_val binary64 false (digits n) (kept n) in_range)

  root_units : in_units (nearest_root n) ≡ digits n * 2 ^ kept n
  root_units = value_units (nearest_root n) false (digits n * 2 ^ kept n) root_value

  pub root_nearer : (z : ℕ) → Grid n → Grid z → Nearer n (in_units (nearest_root n)) z
  unfolding digits
  root_nearer z g w =
      subst (λ (r : ℕ). Nearer n r z) (sym root_units)
      (nearer n (lead n) (kept n) above_lead below_next lead_ge (compare (4 * n) ((2 * lead n + 1) * 2 ^ kept n * ((2 * lead n + 1) * 2 ^ kept n))) z g w (cmp (4 * n) ((2 * lead n + 1) * 2 ^ kept n * ((2 * lead n + 1) * 2 ^ kept n))))

units-fit : (q k : ℕ) → q ≤ 2 ^ 53 → q * 2 ^ k < 2 ^ 2098 → T (fits binary64 (units binary64 false q k))
unfolding units
units-fit q k a h = rw (is_true (ltb (q * 2 ^ k) (2 ^ 2098)) (lt→ltb (q * 2 ^ k) (2 ^ 2098) h)) (odd-fits binary64 54 false q k (omega arith) a h)

pub root_fits : (n : ℕ) → 2 ^ 104 ≤ n → n < 2 ^ 3172 → T (fits binary64 (nearest_root n))
root_fits n a b = subst (λ (y : Float). T (fits binary64 y)) (sym (nearest_root_is n)) (units-fit (digits n) (kept n) (digits_le n a b) (in_range n a b))

-- ---- a double above zero

module _ (m : ℕ) (e : ℤ) (h : Fit binary64 (suc m) e) where
  pub squares_ge : 2 ^ 104 ≤ suc m * up e * 2 ^ 2148 / down e
  squares_ge =
      le_trans (lit≤ {m = 2 ^ 104} {n = 2 ^ 1074} tt)
      ((le-div_iff_mul-le (down_pos e)).1
      (le_trans (mul-le-mul_left (2 ^ 1074) h.fine) (mul-le-mul_right (2 ^ 2148) (mul-pos (zero-lt-suc m) (up_pos e)))))

  pub squares_lt : suc m * up e * 2 ^ 2148 / down e < 2 ^ 3172
  squares_lt =
      (div-lt_iff_lt-mul (down_pos e)).1
      (lt_of_lt_of_le (mul-lt-mul_of_pos_right h.under (pow_pos 2148)) (le_of_eq (mul_right_comm (2 ^ 1024) (down e) (2 ^ 2148))))
