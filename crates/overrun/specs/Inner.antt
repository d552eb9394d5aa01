-- What the code's own contracts cite.
use Rattle.std.specs.Prelude.{ℕ, ◌^◌, false, cond, ltb, Float}
use Rattle.std.specs.Float.{nan, binary64}
use Rattle.std.specs.Float.Ieee.{round}
use Rattle.overrun.specs.Fractions.{in_lowest_terms}

-- a / b as a double, where the upper number of the reduced fraction is below 2^53
unfoldable pub quotient_of : ℕ → ℕ → Float
quotient_of a b = cond (ltb (in_lowest_terms a b).upper (2 ^ 53)) (round binary64 false (in_lowest_terms a b).upper (in_lowest_terms a b).lower) nan
