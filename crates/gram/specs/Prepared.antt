-- What the preparation of a series leaves in the run lent for it: the factor of D D', z* after its rows, and D y. No path writes there.
-- For the contracts between our own crates.
use Rattle.std.specs.Prelude.{◌≡◌, true, Option, Some, is_some, List, ℕ, ◌+◌, ◌-◌, ◌*◌, ◌≤◌, length, Float}
use Rattle.vectors.specs.Parts.{Kept, part}
use Rattle.differences.specs.Diff.{diff_k, gram_row}
use Rattle.banded.specs.Rows.{rows, sound}
use Rattle.banded.specs.Run.{concat, Keeps}
use Rattle.gram.specs.Gram.{gram, zstar, lam_max}

-- z*, after the rows of the factor, for a series of n
abbrev pub star_lane : ℕ → ℕ → ℕ
star_lane k n = (n - k) * (k + 1)

-- D y
abbrev pub diff_lane : ℕ → ℕ
diff_lane n = 4 * n

-- the whole preparation
abbrev pub preparation : ℕ → ℕ
preparation n = 5 * n

-- the system that the preparation solves: the rows of D D' and D y after them; behind it D y in its own lane
pub record System (k : ℕ) (y s₀ s : List Float) : Type 0 where
  pub ends : star_lane k (length y) + (length y - k) ≤ diff_lane (length y)
  pub rows : Keeps k (length y - k) (gram k (gram_row k)) s
  pub right : part (star_lane k (length y)) (length y - k) s ≡ diff_k k y
  pub differences : part (diff_lane (length y)) (length y - k) s ≡ diff_k k y
  pub kept : Kept 0 (preparation (length y)) s₀ s

-- r is lam_max where the pivots of D D' are all good, and None else
pub record Prepared (k : ℕ) (y s₀ s : List Float) (r : Option Float) : Type 0 where
  pub good : is_some r ≡ sound k (gram k (gram_row k)) (length y - k)
  pub top : (v : Float) → r ≡ Some v → v ≡ lam_max k (gram_row k) (length y - k) y
  pub factor : is_some r ≡ true → part 0 (star_lane k (length y)) s ≡ concat (rows k (gram k (gram_row k)) (length y - k))
  pub star : is_some r ≡ true → part (star_lane k (length y)) (length y - k) s ≡ zstar k (gram_row k) (length y - k) y
  pub differences : part (diff_lane (length y)) (length y - k) s ≡ diff_k k y
  pub kept : Kept 0 (preparation (length y)) s₀ s
