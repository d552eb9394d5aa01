-- What the functions on a series ask: an order k of 1 or 2, and a series of n places that is long enough for it and not too long (questions 1 to 3).
use Rattle.std.specs.Prelude.{ℕ, ◌≤◌, ◌<◌}

pub record Order (k : ℕ) : Type 0 where
  pub low : 1 ≤ k
  pub high : k ≤ 2

pub record Series (k n : ℕ) : Type 0 where
  pub order : Order k
  pub long : k < n
  pub short : n ≤ 65536
