-- The Gram row is what its name says: at distance d the products of the stencil with itself, d places on, added up.
use mathlib.Core.Path.{◌≡◌, refl}
use mathlib.Core.List.{List}
use Prim.Native.Nat.{ℕ, ◌+◌, ◌-◌}
use lib.Ieee.{Float, of_bits, mul, add, neg}
use Rattle.float64.specs.Ops.{◌⊗◌}
use Rattle.vectors.specs.Vec.{at, list}
use Rattle.vectors.specs.Sums.{sum_to}
use Rattle.differences.specs.Diff.{stencil, gram_row}

-- Σ c[j]·c[j+d] for d = 0, 1, 2
pub products : ℕ → List Float
products k = list 3 (λ d. sum_to (λ j. at (stencil k) j ⊗ at (stencil k) (j + d)) (k + 1 - d))

pub gram-row : (gram_row 1 ≡ products 1) × (gram_row 2 ≡ products 2)
unfolding products list sum_to of_bits mul add neg
gram-row = (refl, refl)
