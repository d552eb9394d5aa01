-- Document 02, A14: what "the nearest double" means, with no word on how it is found (`Rattle.overrun.proofs.Meaning` proves it of `overrun`).
use Rattle.std.specs.Prelude.{◌≡◌, ℕ, ◌+◌, ◌*◌, ◌^◌, ◌<◌, Bool, true, cond, List, get_or, T, pos, nat_abs, Float}
use Rattle.std.specs.Bool.{beq}
use Rattle.std.specs.Float.{binary64}
use Rattle.std.specs.Float.Ieee.{fits, ne}
use Rattle.float64.specs.Helpers.{is_finite}
use Rattle.float64.specs.Units.{in_units, has_minus}
use Rattle.float64.specs.Ops.{c0}
use Rattle.vectors.specs.Vec.{apart}
use Rattle.overrun.specs.Overrun.{Frames, frames_in, is_rated, is_below_zero, overrun}

-- how far a double z is from a / b, which is negative where s is true: so many times 2 ^ -1074 / b
abbrev pub distance : Bool → ℕ → ℕ → Float → ℕ
distance s a b z = cond (beq s (has_minus z)) (apart (a * 2 ^ 1074) (in_units z * b)) (a * 2 ^ 1074 + in_units z * b)

-- r is a finite double with the sign s, and every finite double that is another number is further from a / b
pub record NearestDouble (s : Bool) (a b : ℕ) (r : Float) : Type 0 where
  pub double : T (fits binary64 r)
  pub finite : is_finite r ≡ true
  pub sign : has_minus r ≡ s
  pub others : (z : Float) → T (fits binary64 z) → is_finite z ≡ true → T (ne z r) → distance s a b r < distance s a b z

-- what is proved of the overrun of an hour in frames
pub record Overruns (f : Frames) : Type 0 where
  -- no double is as near to the exact number of milliseconds, which is not reduced here
  pub nearest : NearestDouble (is_below_zero f) (nat_abs f.count * 1000 * f.denominator) f.numerator (overrun f)
  -- a zero count gives +0
  pub zero_count : f.count ≡ pos 0 → overrun f ≡ c0

-- every number of a list is a byte
abbrev pub InBytes : List ℕ → Type 0
InBytes b = (i : ℕ) → get_or b i 0 < 256

-- so for every hour in frames that question 22 takes
abbrev pub OverrunsNearest : Type 0
OverrunsNearest = (b : List ℕ) → InBytes b → is_rated (frames_in b) ≡ true → Overruns (frames_in b)
