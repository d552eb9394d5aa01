-- `sqrt_of` is the square root of IEEE 754: of all doubles it is the nearest to the exact root, and no other is as near (`sqrt_meaning`).
-- Assumes nothing.
use mathlib.Core.Path.{◌≡◌, refl, sym, ◌∙◌}
use mathlib.Core.Logic.{inl, inr}
use Prim.Native.Nat.{ℕ, zero, suc, ◌+◌, ◌-◌, ◌*◌, ◌/◌, ◌^◌, ◌≤◌, ◌<◌, compare, Ordering}
use native.Mathlib.Nat.{lt_of_lt_of_le, mul-le-mul, zero-mul, eq-zero-or-pos}
use native.Mathlib.Omega.{arith}
use mathlib.Core.Bool.{Bool, true, false, true≢false}
use lib.IntN.{ℤ}
use lib.Dec.{T, ltb→lt, lit<}
use lib.Ieee.{Float, nan, inf, fin, binary64, up, down, lt, fits, of_bits}
use lib.Ieee.Exact.{HasValue}
use Rattle.float64.specs.Helpers.{is_finite}
use Rattle.square_root.specs.Sqrt.{nearest_root, sqrt_of}
use Rattle.float64.specs.Ops.{c0}
use Rattle.square_root.specs.Nearest.{Further, NearestRoot, SquareRoot}
use Rattle.float64.specs.Units.{in_units, has_minus}
use Rattle.float64.proofs.Doubles.{Fit, fit_of, double_grid, squares_grid, same_double}
use Rattle.float64.proofs.Spacing.{Cmp, cmp, value_finite, value_sign}
use Rattle.square_root.proofs.Nearest.{Nearer, digits, kept, root_value, root_fits, root_nearer, squares_ge, squares_lt}

-- ---- a number other than r is further

further : (s : Bool) (n r z : ℕ) → 0 < n → Nearer n r 0 → Nearer n r z → (s ≡ false → r ≡ z → ⊥) → Further n r s z
further true n r z p o h d =
    let below : (r - z) * (r - z) ≤ r * r = mul-le-mul (omega arith) (omega arith) in
    elim (eq-zero-or-pos r) [
      | inl e ↦ let none : r * r ≡ 0 = rw e in omega arith
      | inr g ↦ omega (arith, below, o.from_below g)
    ]
further false n r z p o h d = go (compare r z) (cmp r z)
  where
    go : (w : Ordering) → Cmp w r z → Further n r false z
    go Ordering.lt g = inr (g, h.from_above g)
    go Ordering.eq g = absurd (d refl g)
    go Ordering.gt g = inl (g, h.from_below g)

-- ---- a double above zero

module _ (m : ℕ) (e : ℤ) (f : T (fits binary64 (fin false (suc m) e))) where
  abbrev n : ℕ
  n = suc m * up e * 2 ^ 2148 / down e

  h : Fit binary64 (suc m) e
  h = fit_of binary64 false (suc m) e f

  value : HasValue (nearest_root n) false (digits n * 2 ^ kept n) (2 ^ 1074)
  value = root_value n (squares_ge m e h) (squares_lt m e h)

  fit : T (fits binary64 (nearest_root n))
  fit = root_fits n (squares_ge m e h) (squares_lt m e h)

  finite : is_finite (nearest_root n) ≡ true
  finite = value_finite (nearest_root n) false (digits n * 2 ^ kept n) (2 ^ 1074) value

  plus : has_minus (nearest_root n) ≡ false
  plus = value_sign (nearest_root n) false (digits n * 2 ^ kept n) (2 ^ 1074) value

  near : (z : Float) → T (fits binary64 z) → Nearer n (in_units (nearest_root n)) (in_units z)
  near z g = root_nearer n (squares_ge m e h) (squares_lt m e h) (in_units z) (squares_grid false (suc m) e h) (double_grid z g)

  than_zero : Nearer n (in_units (nearest_root n)) 0
  than_zero = root_nearer n (squares_ge m e h) (squares_lt m e h) 0 (squares_grid false (suc m) e h) (0, 0, lit< tt, refl)

  nearest_of_lem : NearestRoot (fin false (suc m) e) (nearest_root n)
  nearest_of_lem = record {
    double = fit;
    finite = finite;
    no_minus = plus;
    others = λ z g q d. further (has_minus z) n (in_units (nearest_root n)) (in_units z) (lt_of_lt_of_le (lit< tt) (squares_ge m e h)) than_zero (near z g)
        (λ s u. d (same_double z (nearest_root n) g fit q finite (s ∙ sym plus) (sym u)));
  }

above : (x : Float) → T (fits binary64 x) → T (lt c0 x) → is_finite x ≡ true → NearestRoot x (sqrt_of x)
unfolding sqrt_of lt of_bits is_finite
above nan f p q = absurd p
above (inf s) f p q = absurd (true≢false (sym q))
above (fin true m e) f p q = absurd p
above (fin false zero e) f p q = absurd (omega (arith, zero-mul (up e), zero-mul (down e), ltb→lt (0 * 1 * down e) (0 * up e * 1) p))
above (fin false (suc m) e) f p q = nearest_of_lem m e f

below : (x : Float) → T (lt x c0) → sqrt_of x ≡ nan
unfolding sqrt_of lt of_bits
below nan p = absurd p
below (inf true) p = refl
below (inf false) p = absurd p
below (fin true zero e) p = absurd (omega (arith, zero-mul (up e), zero-mul (down e), ltb→lt 0 (0 * up e * 1 + 0 * 1 * down e) p))
below (fin true (suc m) e) p = refl
below (fin false m e) p = absurd (omega (arith, zero-mul (down e), ltb→lt (m * up e * 1) (0 * 1 * down e) p))

pub sqrt_meaning : SquareRoot sqrt_of
unfolding sqrt_of of_bits
sqrt_meaning = record {
  plus_zero = refl;
  minus_zero = refl;
  top = refl;
  no_number = refl;
  below_zero = below;
  above_zero = above;
}
