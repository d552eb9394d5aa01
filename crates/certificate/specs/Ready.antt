-- What the functions of an L1 fit ask: a series y and its order k, a run with at least `least` places, and dy, which begins with D y.
use Rattle.std.specs.Prelude.{◌≡◌, List, ℕ, ◌-◌, ◌≤◌, length, take, Float}
use Rattle.differences.specs.Series.{Series}
use Rattle.differences.specs.Diff.{diff_k}

pub record Ready (k : ℕ) (y dy : List Float) (least places : ℕ) : Type 0 where
  pub series : Series k (length y)
  pub room : least ≤ places
  pub known : take (length y - k) dy ≡ diff_k k y
