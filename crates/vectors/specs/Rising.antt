-- Document 02, A1 and A9: places of a series and positions of a week, in order; and that a number is one of several.
use Rattle.std.specs.Prelude.{◌≡◌, ℕ, ◌<◌, List, length, get_or}

-- numbers below n that rise strictly
pub record Rising (n : ℕ) (l : List ℕ) : Type 0 where
  pub below : (i : ℕ) → i < length l → get_or l i 0 < n
  pub strictly : (i j : ℕ) → i < j → j < length l → get_or l i 0 < get_or l j 0

-- i is one of the numbers l
pub record Among (i : ℕ) (l : List ℕ) : Type 0 where
  pub place : ℕ
  pub within : place < length l
  pub holds : get_or l place 0 ≡ i
