-- What the rows of the L2 system ask for, and what a run holds while a row is repeated in it. For the contracts of our own crates.
use Rattle.std.specs.Prelude.{◌≡◌, List, ℕ, ◌+◌, ◌-◌, ◌*◌, ◌<◌, ◌≤◌, Float}
use Rattle.vectors.specs.Vec.{at}
use Rattle.vectors.specs.Parts.{Kept}
use Rattle.differences.specs.Series.{Series}

-- a row i of the system of a series of n
pub record Row (k n i : ℕ) : Type 0 where
  pub series : Series k n
  pub inside : i < n

-- rows from up to, not including, to, in a run with the places of all n
pub record Rows (k n from to places : ℕ) : Type 0 where
  pub series : Series k n
  pub rising : from ≤ to
  pub inside : to ≤ n
  pub room : n * (k + 1) ≤ places

-- s is s₀ but for the n places from b on, each of which holds what stands w places before it
pub record Repeated (w b n : ℕ) (s₀ s : List Float) : Type 0 where
  pub kept : Kept b n s₀ s
  pub same : (q : ℕ) → b ≤ q → q < b + n → at s q ≡ at s (q - w)
