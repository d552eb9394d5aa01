-- For a caller in C: how an answer is told that is a number and one array.
use Rattle.std.specs.Prelude.{◌≡◌, List, ℕ}

-- the answer a is told: r is its code, and an array that held v₀ before holds v after
pub record ToldBy {A : Type 0} (code_in : A → ℕ) (arrayIn : A → List ℕ → List ℕ) (a : A) (r : ℕ) (v₀ v : List ℕ) : Type 0 where
  pub code : r ≡ code_in a
  pub array : v ≡ arrayIn a v₀
