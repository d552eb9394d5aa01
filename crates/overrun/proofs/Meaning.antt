-- The overrun of an hour in frames is the double nearest to the exact number of milliseconds, and no other is as near (`overruns_nearest`).
-- Assumes nothing.
use mathlib.Core.Path.{◌≡◌, refl, sym, ◌∙◌, subst}
use Prim.Native.Nat.{ℕ, zero, suc, ◌+◌, ◌*◌, ◌^◌, ◌≤◌, ◌<◌}
use native.Mathlib.Nat.{le_trans, le_of_lt, zero-lt-suc, zero-mul}
use mathlib.Core.Bool.{Bool, true, false, beq, cond, and-eq-true_iff}
use lib.IntN.{pos, nat_abs}
use lib.Dec.{T, ltb, lit<, lit≤}
use borrow.Author.Tests.{ltb-true}
use lib.Ieee.{Float, fin, binary64, round, ne, fits, of_bits}
use lib.Ieee.Compare.{differs_from_itself}
use lib.Ieee.Exact.{HasValue}
use lib.Ieee.Fits.{round-fits}
use lib.Ieee.Scale.{round_same}
use Rattle.float64.specs.Helpers.{is_finite}
use Rattle.float64.specs.Units.{in_units, has_minus}
use Rattle.float64.specs.Ops.{c0}
use Rattle.float64.proofs.Doubles.{double_grid, same_double, round_double}
use Rattle.float64.proofs.Spacing.{value_finite, value_sign, value_units}
use Rattle.framing.proofs.Numbers.{number_below}
use Rattle.vectors.specs.Vec.{apart}
use Rattle.overrun.specs.Fractions.{LowestTerms}
use Rattle.overrun.specs.Overrun.{Frames, frames_in, fraction_of, is_rated, is_below_zero, overrun}
use Rattle.overrun.specs.Nearest.{distance, NearestDouble, OverrunsNearest}
use Rattle.overrun.proofs.Fractions.{reductions}
use Rattle.overrun.proofs.Nearest.{NearestCount, zero_nearest, across, rounded, rounded_nearest, rounded_value}

-- ---- zeros

-- the double that is zero, with a sign
abbrev nought : Bool → Float
nought s = fin s 0 (pos 0)

nought_fits : (s : Bool) → T (fits binary64 (nought s))
unfolding fits
nought_fits s = tt

is_nought : (z : Float) → T (fits binary64 z) → is_finite z ≡ true → in_units z ≡ 0 → z ≡ nought (has_minus z)
unfolding is_finite
is_nought z f q e = same_double z (nought (has_minus z)) f (nought_fits (has_minus z)) q refl refl e

-- both are the same number
noughts : (s t : Bool) → T (ne (nought s) (nought t)) → ⊥
unfolding ne
noughts true true d = d
noughts true false d = d
noughts false true d = d
noughts false false d = d

round-zero : (s : Bool) (b : ℕ) → 0 < b → round binary64 s 0 b ≡ nought s
round-zero s b h = round_same binary64 s 0 b 0 1 h (lit< tt) (sym (zero-mul b)) ∙ round_double s 0 (pos 0) (nought_fits s)

-- ---- which of its two values a distance has

same_sign : (s : Bool) (p q : ℕ) → cond (beq s s) p q ≡ p
same_sign true p q = refl
same_sign false p q = refl

either : (s t : Bool) (h p q : ℕ) → (t ≡ s → h < p) → h < q → h < cond (beq s t) p q
either true true h p q a b = a refl
either true false h p q a b = b
either false true h p q a b = b
either false false h p q a b = a refl

-- ---- a double with a count m that is nearer than any other count

module _ (s : Bool) (a b m : ℕ) (x : Float) (b_pos : 0 < b) (f : T (fits binary64 x)) (v : HasValue x s m (2 ^ 1074)) (near : NearestCount (a * 2 ^ 1074) b m) where
  finite : is_finite x ≡ true
  finite = value_finite x s m (2 ^ 1074) v

  sign : has_minus x ≡ s
  sign = value_sign x s m (2 ^ 1074) v

  units : in_units x ≡ m
  units = value_units x s m v

  own : distance s a b x ≡ apart (a * 2 ^ 1074) (m * b)
  own = rw (sign, units) (same_sign s (apart (a * 2 ^ 1074) (m * b)) (a * 2 ^ 1074 + m * b))

  others : (z : Float) → T (fits binary64 z) → is_finite z ≡ true → T (ne z x) → distance s a b x < distance s a b z
  others z g q d =
      rw own
      (either s (has_minus z) (apart (a * 2 ^ 1074) (m * b)) (apart (a * 2 ^ 1074) (in_units z * b)) (a * 2 ^ 1074 + in_units z * b)
      (λ e. near (in_units z) (double_grid z g) (λ h. self (same_double z x g f q finite (e ∙ sym sign) (h ∙ sym units))))
      (across (a * 2 ^ 1074) b m (in_units z) b_pos near (λ h e. zeros (is_nought z g q e) (is_nought x f finite (units ∙ h)))))
    where
      self : z ≡ x → ⊥
      self e = subst (λ (y : Float). HasValue y s m (2 ^ 1074)) (differs_from_itself x (subst (λ (y : Float). T (ne y x)) e d)) v

      zeros : z ≡ nought (has_minus z) → x ≡ nought (has_minus x) → ⊥
      zeros e h = noughts (has_minus z) (has_minus x) (subst (λ (y : Float). T (ne (nought (has_minus z)) y)) h (subst (λ (y : Float). T (ne y x)) e d))

  nearest_double : NearestDouble s a b x
  nearest_double = record { double = f; finite = finite; sign = sign; others = others }

-- ---- a / b rounded, where it is u / v

round_nearest : (s : Bool) (a b u v : ℕ) → 0 < b → b ≤ 2 ^ 1022 → 0 < v → u < 2 ^ 53 → u * b ≡ a * v → NearestDouble s a b (round binary64 s a b)
round_nearest s zero b u v b_pos b-le v-pos u-lt e =
    nearest_double s 0 b 0 (round binary64 s 0 b) b_pos (round-fits binary64 s 0 b)
    (subst (λ (x : Float). HasValue x s 0 (2 ^ 1074)) (sym (round-zero s b b_pos)) (refl, refl))
    (zero_nearest b b_pos)
round_nearest s (suc a) b u v b_pos b-le v-pos u-lt e =
    nearest_double s (suc a) b (rounded (suc a) b) (round binary64 s (suc a) b) b_pos (round-fits binary64 s (suc a) b)
    (rounded_value (suc a) b u v (zero-lt-suc a) b_pos b-le v-pos u-lt e s)
    (rounded_nearest (suc a) b u v (zero-lt-suc a) b_pos b-le v-pos u-lt e)

-- ---- hours in frames

module _ (f : Frames) (rated : is_rated f ≡ true) where
  abbrev a : ℕ
  a = nat_abs f.count * 1000 * f.denominator

  abbrev b : ℕ
  b = f.numerator

  b_pos : 0 < b
  b_pos = ltb-true 0 b ((and-eq-true_iff (ltb 0 b) _).0 rated).0

  upper_lt : (fraction_of f).upper < 2 ^ 53
  upper_lt = ltb-true _ _ ((and-eq-true_iff (ltb 0 f.denominator) _).0 ((and-eq-true_iff (ltb 0 b) _).0 rated).1).1

  terms : LowestTerms a b (fraction_of f)
  terms = reductions.terms a b b_pos

  -- reduced or not, the fraction rounds alike
  overrun_is : overrun f ≡ round binary64 (is_below_zero f) a b
  unfolding overrun
  overrun_is = rw rated (round_same binary64 (is_below_zero f) (fraction_of f).upper (fraction_of f).lower a b terms.above_zero b_pos terms.value)

  nearest : b ≤ 2 ^ 1022 → NearestDouble (is_below_zero f) a b (overrun f)
  nearest h =
      subst (NearestDouble (is_below_zero f) a b) (sym overrun_is)
      (round_nearest (is_below_zero f) a b (fraction_of f).upper (fraction_of f).lower b_pos h terms.above_zero upper_lt terms.value)

  zero_count : f.count ≡ pos 0 → overrun f ≡ c0
  unfolding of_bits
  zero_count e = overrun_is ∙ rw (e, zero-mul f.denominator) (round-zero false b b_pos)

-- four bytes are far below the numerators of which some put an overrun half way between two doubles
pub overruns_nearest : OverrunsNearest
overruns_nearest b h r = record { nearest = nearest (frames_in b) r (le_trans (le_of_lt (number_below b 4 4 h)) (lit≤ tt)); zero_count = zero_count (frames_in b) r }
