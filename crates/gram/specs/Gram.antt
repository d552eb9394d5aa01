-- Document 01, "Differences and bands": D D' has g[d] at distance d up to k, 0 beyond; z* solves (D D') z = D y; lam_max is the NaN-ignoring maximum of |z*| from 0.
use Rattle.std.specs.Prelude.{cond, List, ℕ, ◌+◌, ◌-◌, min, leb, length, Float}
use Rattle.float64.specs.Ops.{◌⊗◌, c0}
use Rattle.vectors.specs.Sums.{more_from, max_abs}
use Rattle.vectors.specs.Vec.{at, apart}
use Rattle.differences.specs.Diff.{diff_k}
use Rattle.banded.specs.Rows.{Matrix, rows}
use Rattle.banded.specs.Solve.{solve}

-- D D' at row i and a column j up to i: g at their distance up to k, +0 beyond
unfoldable pub gram : ℕ → List Float → Matrix
gram k g i j = let d = i - j in cond (leb d k) (at g d) c0

-- place i of (D D') v: g at |i - j| times v at j, for j from i - k (subtraction stops at 0) to i + k where v has a place, upwards from +0
unfoldable pub product : ℕ → List Float → List Float → ℕ → Float
product k g v i = more_from c0 (λ j. at g (apart i j) ⊗ at v j) (i - k) (min (i + k + 1) (length v))

-- z*, for a series y of m + k places
unfoldable pub zstar : ℕ → List Float → ℕ → List Float → List Float
zstar k g m y = solve k (rows k (gram k g) m) (diff_k k y)

-- lam_max
unfoldable pub lam_max : ℕ → List Float → ℕ → List Float → Float
lam_max k g m y = max_abs (zstar k g m y)
