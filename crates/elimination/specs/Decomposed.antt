-- Document 01, "Differences and bands": factor does the Rust's operations in its order. What a run holds while its matrix is factored, and once it is.
use Rattle.std.specs.Prelude.{◌≡◌, Bool, true, List, ℕ, ◌+◌, ◌*◌, Float}
use Rattle.vectors.specs.Parts.{Kept, part}
use Rattle.banded.specs.Rows.{Matrix, rows, sound}
use Rattle.banded.specs.Solve.{forward}
use Rattle.banded.specs.Run.{concat, Keeps, Holds, Stands}

-- s begins with the first r rows of the factor of a, whose pivots are good, and after the places of m rows has the first r places of v, carried forward
pub record Reached (k m r : ℕ) (a : Matrix) (v s : List Float) : Type 0 where
  pub made : Holds k r (rows k a r) s
  pub firm : sound k a r ≡ true
  pub side : Stands (m * (k + 1)) (forward k (rows k a r) v r) s

-- s₀ begins with m rows that keep a matrix, and then a right side. ok says whether the pivots of its factor are all good. If so s holds the factor's rows in the place of the matrix's, and the right side carried forward. What comes after stays.
pub record Decomposed (k m : ℕ) (s₀ s : List Float) (ok : Bool) : Type 0 where
  pub kept : Kept 0 (m * (k + 1) + m) s₀ s
  pub answer : (a : Matrix) → Keeps k m a s₀ → ok ≡ sound k a m
  pub factor : (a : Matrix) → Keeps k m a s₀ → ok ≡ true → part 0 (m * (k + 1)) s ≡ concat (rows k a m)
  pub side : (a : Matrix) → Keeps k m a s₀ → ok ≡ true
      → part (m * (k + 1)) m s ≡ forward k (rows k a m) (part (m * (k + 1)) m s₀) m
