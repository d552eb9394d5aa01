-- Document 02, A14: kind 5, an hour with a signed 4-byte frame count and a rate, two 4-byte numbers, numerator over denominator; its overrun, and question 22.
use Rattle.std.specs.Prelude.{ℕ, ◌*◌, ◌^◌, Bool, not, cond, ◌&&◌, List, ltb, ℤ, nat_abs, Float}
use Rattle.std.specs.Int.Signed.{non_neg}
use Rattle.std.specs.Float.{nan, binary64}
use Rattle.std.specs.Float.Ieee.{round}
use Rattle.framing.specs.Bytes.{number_at, signed32}
use Rattle.overrun.specs.Fractions.{Fraction, in_lowest_terms}

-- so many frames, at numerator / denominator a second
pub record Frames : Type 0 where
  pub count : ℤ
  pub numerator : ℕ
  pub denominator : ℕ

-- the frames that a body says
abbrev pub frames_in : List ℕ → Frames
frames_in b = record { count = signed32 (number_at 0 4 b); numerator = number_at 4 4 b; denominator = number_at 8 4 b }

-- the size of the overrun, frames × 1000 × denominator / numerator milliseconds, reduced
abbrev pub fraction_of : Frames → Fraction
fraction_of f = in_lowest_terms (nat_abs f.count * 1000 * f.denominator) f.numerator

-- question 22 of one hour: no zero in its rate, and the reduced fraction's upper number is below 2^53
abbrev pub is_rated : Frames → Bool
is_rated f = ltb 0 f.numerator && (ltb 0 f.denominator && ltb (fraction_of f).upper (2 ^ 53))

-- whether the count is below zero, and so the overrun
abbrev pub is_below_zero : Frames → Bool
is_below_zero f = not (non_neg f.count)

-- the overrun: the double nearest to the fraction, ties to even, with the count's sign; not a number where question 22 refuses the rate
unfoldable pub overrun : Frames → Float
overrun f = cond (is_rated f) (round binary64 (is_below_zero f) (fraction_of f).upper (fraction_of f).lower) nan
