-- What a writer of bytes promises.
use Rattle.std.specs.Prelude.{ℕ, ◌+◌, ◌≤◌, List}
use Rattle.vectors.specs.Parts.{Wrote}

-- t, of at most `most` bytes, was written into d from `at` on, which made it e, and r is the place past it
pub record Puts (d : List ℕ) (at : ℕ) (t e : List ℕ) (r most : ℕ) : Type 0 where
  pub wrote : Wrote d at t e r
  pub short : r ≤ at + most
