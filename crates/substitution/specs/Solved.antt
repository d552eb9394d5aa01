-- Document 01, "Differences and bands": factor and solve do the Rust's operations in its order. What a run holds while its right side is carried back, and once its system is solved.
use Rattle.std.specs.Prelude.{◌≡◌, Bool, true, List, ℕ, ◌+◌, ◌-◌, ◌*◌, ◌≤◌, length, drop, Float}
use Rattle.vectors.specs.Parts.{Kept, part}
use Rattle.banded.specs.Rows.{Matrix, rows, sound}
use Rattle.banded.specs.Solve.{divided, back, solve}
use Rattle.banded.specs.Run.{concat, Keeps, Shape, Holds, Stands}

-- a run of n places has the room for m rows and their right side, and there is a row
pub record Fits (k m n : ℕ) : Type 0 where
  pub some : 1 ≤ m
  pub room : m * (k + 1) + m ≤ n

-- once the last `from` places are done, the last `to` are to be
pub record Stretch (k m from to n : ℕ) : Type 0 where
  pub fits : Fits k m n
  pub rising : from ≤ to
  pub most : to ≤ m

-- s is s₀ but for the last t of the m places after the rows, which are now divided by the pivots and carried back
pub record Backed (k m t : ℕ) (s₀ s : List Float) : Type 0 where
  pub kept : Kept (m * (k + 1) + (m - t)) t s₀ s
  pub made : (f : List (List Float)) (u : List Float) → Holds k m f s₀ → length u ≡ m → Stands (m * (k + 1)) u s₀ → Stands (m * (k + 1) + (m - t)) (back k f (divided k f u) t) s

-- of whatever run s₀ is the last `from` places carried back, s is the last `to`
pub record Carried (k m from to : ℕ) (s₀ s : List Float) : Type 0 where
  pub size : length s ≡ length s₀
  pub done : (v : List Float) → Backed k m from v s₀ → Backed k m to v s

-- whatever m rows f of a factor s₀ begins with, s is s₀ but for the m places after them, which are now divided by the pivots and carried back
pub record Substituted (k m : ℕ) (s₀ s : List Float) : Type 0 where
  pub kept : Kept (m * (k + 1)) m s₀ s
  pub made : (f : List (List Float)) → Shape k m f → part 0 (m * (k + 1)) s₀ ≡ concat f → part (m * (k + 1)) m s ≡ back k f (divided k f (part (m * (k + 1)) m s₀)) m

-- s₀ has, from place p on, m rows that keep a matrix, and then a right side. ok says whether the pivots of its factor are all good. If so s holds the factor's rows in the place of the matrix's, and the solution in the place of the right side. All places but those of the system stay.
pub record Solved (p k m : ℕ) (s₀ s : List Float) (ok : Bool) : Type 0 where
  pub kept : Kept p (m * (k + 1) + m) s₀ s
  pub answer : (a : Matrix) → Keeps k m a (drop p s₀) → ok ≡ sound k a m
  pub factor : (a : Matrix) → Keeps k m a (drop p s₀) → ok ≡ true → part p (m * (k + 1)) s ≡ concat (rows k a m)
  pub solution : (a : Matrix) → Keeps k m a (drop p s₀) → ok ≡ true
      → part (p + m * (k + 1)) m s ≡ solve k (rows k a m) (part (p + m * (k + 1)) m s₀)
