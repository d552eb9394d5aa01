-- Document 01, "Known fits and edges", as far as the preparation goes: z* and lam_max, worked out from the definitions.
use mathlib.Core.Path.{◌≡◌, refl}
use mathlib.Core.List.{[], ◌∷◌}
use lib.Ieee.{Float, nan, binary64, of_bits, add, sub, mul, div, neg, lt, is_nan}
use Rattle.float64.specs.Ops.{c0, c2}
use Rattle.float64.specs.Helpers.{abs_of, is_finite, max_of}
use Rattle.vectors.specs.Vec.{list}
use Rattle.vectors.specs.Sums.{max_to, max_abs}
use Rattle.differences.specs.Diff.{diff, diff_k, gram_row}
use Rattle.banded.specs.Rows.{less, less_from, reduced, entry, placed, row_to, row, rows}
use Rattle.banded.specs.Solve.{forward_at, forward, divided, back_at, back, solve}
use Rattle.gram.specs.Gram.{gram, zstar, lam_max}

-- 8000, 4000
abbrev c8000 : Float
c8000 = of_bits binary64 0x40bf_4000_0000_0000

abbrev c4000 : Float
c4000 = of_bits binary64 0x40af_4000_0000_0000

pub record Known : Type 0 where
  -- hours (8000, 0), order 1
  pub dual : zstar 1 (gram_row 1) 1 (c8000 ∷ c0 ∷ []) ≡ neg c4000 ∷ []
  pub greatest : lam_max 1 (gram_row 1) 1 (c8000 ∷ c0 ∷ []) ≡ c4000
  -- one NaN does not spoil the maximum
  pub unspoiled : max_abs (neg c4000 ∷ nan ∷ c2 ∷ []) ≡ c4000

pub known : Known
unfolding abs_of is_finite max_of list max_to max_abs diff diff_k less less_from reduced entry placed row_to row rows forward_at forward divided back_at back solve gram zstar lam_max of_bits add sub mul div neg lt is_nan
known = record { dual = refl; greatest = refl; unspoiled = refl }
