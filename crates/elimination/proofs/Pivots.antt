-- The test of a pivot: a double above 0 is finite just where it is at most the largest. Assumes nothing.
use mathlib.Core.Bool.{Bool, true, false, true≢false}
use mathlib.Core.Logic.{⊎_elim}
use mathlib.Core.Path.{◌≡◌, refl, sym, ◌∙◌}
use Prim.Native.Nat.{ℕ, suc, ◌*◌, ◌^◌, ◌≤◌}
use native.Mathlib.Nat.{le_trans, lt_irrefl, lt_of_lt_of_le, mul-le-mul_right}
use lib.Dec.{T, lit≤}
use lib.Pow.{pow_pos}
use lib.IntN.{ℤ}
use lib.Ieee.{Float, nan, inf, fin, binary64, lt, le, fits, of_bits}
use lib.Ieee.Bits.{is_true}
use lib.Ieee.Order.{le_of_values}
use Rattle.float64.specs.Helpers.{is_finite}
use Rattle.float64.specs.Ops.{c0}
use Rattle.float64.specs.Units.{in_units}
use Rattle.float64.proofs.Doubles.{fit_of, double_grid, units-whole, units_under}
use Rattle.float64.proofs.Spacing.{gap}
use Rattle.banded.specs.Rows.{good}

-- the largest double
abbrev largest : Float
largest = of_bits binary64 0x7fef_ffff_ffff_ffff

-- it is 2 ^ 53 - 1 steps of 2 ^ 2045 units, and the next step is past all doubles
few_units : (s : Bool) (m : ℕ) (e : ℤ) → T (fits binary64 (fin s m e)) → in_units (fin s m e) ≤ 0x1f_ffff_ffff_ffff * 2 ^ 2045
few_units s m e f =
    ⊎_elim
    (λ h. h)
    (λ (h : suc 0x1f_ffff_ffff_ffff * 2 ^ 2045 ≤ in_units (fin s m e)). absurd (lt_irrefl _ (lt_of_lt_of_le (units_under s m e (fit_of binary64 s m e f)) (le_trans (lit≤ tt) h))))
    (gap 0x1f_ffff_ffff_ffff 2045 (in_units (fin s m e)) (lit≤ tt) (double_grid (fin s m e) f))

at_most_largest : (m : ℕ) (e : ℤ) → T (fits binary64 (fin false m e)) → T (le (fin false m e) largest)
unfolding of_bits
at_most_largest m e f =
    le_of_values (fin false m e) largest (in_units (fin false m e)) (2 ^ 1074) (0x1f_ffff_ffff_ffff * 2 ^ 2045) (2 ^ 1074) (pow_pos 1074) (pow_pos 1074)
    (refl, sym (units-whole false m e (fit_of binary64 false m e f))) (refl, refl) (mul-le-mul_right (2 ^ 1074) (few_units false m e f))

pub above_0 : (x : Float) → T (fits binary64 x) → lt c0 x ≡ true → le x largest ≡ good x
unfolding lt le is_finite of_bits
above_0 nan f e = refl
above_0 (inf true) f e = absurd (true≢false (sym e))
above_0 (inf false) f e = refl
above_0 (fin true m d) f e = absurd (true≢false (sym e))
above_0 (fin false m d) f e = is_true (le (fin false m d) largest) (at_most_largest m d f) ∙ sym e

pub not_above_0 : (x : Float) → lt c0 x ≡ false → good x ≡ false
unfolding is_finite
not_above_0 nan e = refl
not_above_0 (inf s) e = refl
not_above_0 (fin s m d) e = e
