-- Document 01, "Polish, knots, closed paths": the knots of a trend.
use Rattle.std.specs.Prelude.{List, ℕ, length, Float}
use Rattle.std.specs.Float.Ieee.{lt}
use Rattle.float64.specs.Helpers.{abs_of, max_of}
use Rattle.float64.specs.Ops.{◌⊗◌, c1e_6, c1e_12}
use Rattle.vectors.specs.Vec.{at, places_to}
use Rattle.vectors.specs.Sums.{max_abs}
use Rattle.differences.specs.Diff.{diff_k}

-- max(1e-6·max|D y|, 1e-12·max|y|), both inner maxima from 0 and ignoring NaN
unfoldable pub threshold : ℕ → List Float → Float
threshold k y = max_of (c1e_6 ⊗ max_abs (diff_k k y)) (c1e_12 ⊗ max_abs y)

-- the knots of a trend with the differences d, for the series y: the places of d, rising, where |d| is above the threshold
unfoldable pub knots : ℕ → List Float → List Float → List ℕ
knots k y d = places_to (λ i. lt (threshold k y) (abs_of (at d i))) (length d)
