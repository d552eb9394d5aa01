-- Document 01, "Differences and bands": flat rows of k + 1 numbers. What a run holds while a matrix is laid out in it.
use Rattle.std.specs.Prelude.{◌≡◌, List, ℕ, ◌+◌, ◌*◌, ◌<◌, ◌≤◌, Float}
use Rattle.vectors.specs.Parts.{Kept}
use Rattle.banded.specs.Rows.{Matrix, placed}
use Rattle.banded.specs.Run.{flat}

-- s is s₀ with the first r rows that keep a in its first places
pub record Laid (k r : ℕ) (a : Matrix) (s₀ s : List Float) : Type 0 where
  pub kept : Kept 0 (r * (k + 1)) s₀ s
  pub same : (i c : ℕ) → i < r → c ≤ k → flat k s i c ≡ placed k a i c
