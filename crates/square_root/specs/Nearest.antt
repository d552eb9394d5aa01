-- Document 01, "Float helpers": what a square root has to be (`SquareRoot`), with no word on how it is found. That `sqrt_of` is one is
-- proved in proofs/Meaning.antt.
use Rattle.std.specs.Prelude.{ℕ, ◌+◌, ◌-◌, ◌*◌, ◌<◌, ◌≡◌, ◌⊎◌, Bool, true, false, T, Float}
use Rattle.std.specs.Float.{nan, binary64}
use Rattle.std.specs.Float.Ieee.{lt, fits, of_bits}
use Rattle.float64.specs.Helpers.{is_finite}
use Rattle.float64.specs.Units.{in_units, in_squares, has_minus}
use Rattle.float64.specs.Ops.{c0, infinity}

-- The number z, with a minus where the Bool is true, is further from the root of n than r is: the half way between r and z lies on z's
-- side of the root. Twice the half way is r + z, or r - z with the minus (0 for what is below 0); its square is compared with 4 * n.
abbrev pub Further : ℕ → ℕ → Bool → ℕ → Type 0
Further n r false z = ((z < r) × ((r + z) * (r + z) < 4 * n)) ⊎ ((r < z) × (4 * n < (r + z) * (r + z)))
Further n r true z = (r - z) * (r - z) < 4 * n

-- r is a finite double, and every other finite double is further from the exact root of x
pub record NearestRoot (x r : Float) : Type 0 where
  pub double : T (fits binary64 r)
  pub finite : is_finite r ≡ true
  pub no_minus : has_minus r ≡ false
  pub others : (z : Float) → T (fits binary64 z) → is_finite z ≡ true → (z ≡ r → ⊥) → Further (in_squares x) (in_units r) (has_minus z) (in_units z)

-- what IEEE 754 asks of a square root, for every double
pub record SquareRoot (root : Float → Float) : Type 0 where
  pub plus_zero : root c0 ≡ c0
  pub minus_zero : root (of_bits binary64 0x8000_0000_0000_0000) ≡ of_bits binary64 0x8000_0000_0000_0000
  pub top : root infinity ≡ infinity
  pub no_number : root nan ≡ nan
  pub below_zero : (x : Float) → T (lt x c0) → root x ≡ nan
  pub above_zero : (x : Float) → T (fits binary64 x) → T (lt c0 x) → is_finite x ≡ true → NearestRoot x (root x)
