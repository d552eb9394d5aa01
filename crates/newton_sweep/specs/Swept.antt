-- Document 01, "Interior point": the Newton system of a point swept, as our own contracts speak of it: what they ask, what is left when some rows are made, factored and carried forward, when all are, and when it is solved.
use Rattle.std.specs.Prelude.{◌≡◌, true, false, List, ℕ, ◌+◌, ◌-◌, ◌*◌, ◌≤◌, take, drop, Float}
use Rattle.vectors.specs.Sums.{sum_to}
use Rattle.vectors.specs.Parts.{Kept, part}
use Rattle.differences.specs.Series.{Order}
use Rattle.banded.specs.Rows.{rows, sound}
use Rattle.banded.specs.Solve.{forward}
use Rattle.banded.specs.Run.{concat}
use Rattle.elimination.specs.Decomposed.{Reached}
use Rattle.dual_point.specs.Places.{point}
use Rattle.newton_system.specs.Newton.{system, rhs, residual_square, newton_z}
use Rattle.newton_system.specs.Rows.{data_of, residual_square_of}
use Rattle.newton_sweep.specs.declared.Solved.{Solved}

-- a point of m places in the first 3·m of a run of n, and the room for its system from place a on, with D y in l places
pub record AtSystem (k a m n l : ℕ) : Type 0 where
  pub order : Order k
  pub some : 1 ≤ m
  pub three : m + m + m ≤ a
  pub room : a + (m * (k + 1) + m) ≤ n
  pub diffs : m ≤ l

-- some of its rows: those from row `from` up to, not including, row `to`
pub record AtRows (k a m from to n l : ℕ) : Type 0 where
  pub system : AtSystem k a m n l
  pub order : from ≤ to
  pub within : to ≤ m

-- from place a on, s holds the factor of the system of the point in s₀, and its right side carried forward, if all pivots are good
pub record Swept (k : ℕ) (g dy : List Float) (lam inv_t : Float) (a m : ℕ) (s₀ s : List Float) (w : Solved) : Type 0 where
  pub answer : w.good ≡ sound k (system k g lam (point 0 m s₀)) m
  pub square : w.good ≡ true → w.acc ≡ residual_square (data_of k g dy lam inv_t) (point 0 m s₀)
  pub factor : w.good ≡ true → part a (m * (k + 1)) s ≡ concat (rows k (system k g lam (point 0 m s₀)) m)
  pub side : w.good ≡ true → part (a + m * (k + 1)) m s ≡ forward k (rows k (system k g lam (point 0 m s₀)) m) (rhs (data_of k g dy lam inv_t) (point 0 m s₀)) m
  pub kept : Kept a (m * (k + 1) + m) s₀ s

-- the first r rows alone, all their pivots good; acc is the residual's square over their places
pub record Sweeping (k : ℕ) (g dy : List Float) (lam inv_t : Float) (a m : ℕ) (s₀ s : List Float) (acc : Float) (r : ℕ) : Type 0 where
  pub some : r ≤ m
  pub kept : Kept a (m * (k + 1) + m) s₀ s
  pub sum : acc ≡ sum_to (residual_square_of (data_of k g dy lam inv_t) (point 0 m s₀)) r
  pub made : Reached k m r (system k g lam (point 0 m s₀)) (rhs (data_of k g dy lam inv_t) (point 0 m s₀)) (take (m * (k + 1) + m) (drop a s))

-- the rows up to `to`, or a bad pivot among them
pub record SweptTo (k : ℕ) (g dy : List Float) (lam inv_t : Float) (a m to : ℕ) (s₀ s : List Float) (w : Solved) : Type 0 where
  pub on : w.good ≡ true → Sweeping k g dy lam inv_t a m s₀ s w.acc to
  pub ended : w.good ≡ false → Swept k g dy lam inv_t a m s₀ s w

-- s, where the rows up to `from` stood with acc, became s' with those up to `to`: for whatever point in s₀ they were made
abbrev pub SweptOn : ℕ → List Float → List Float → Float → Float → ℕ → ℕ → ℕ → ℕ → Float → List Float → List Float → Solved → Type 0
SweptOn k g dy lam inv_t a m from to acc s s' w = (s₀ : List Float) → Sweeping k g dy lam inv_t a m s₀ s acc from → SweptTo k g dy lam inv_t a m to s₀ s' w

-- and once it is solved: dz stands after the rows
pub record NewtonSolved (k : ℕ) (g dy : List Float) (lam inv_t : Float) (a m : ℕ) (s₀ s : List Float) (w : Solved) : Type 0 where
  pub answer : w.good ≡ sound k (system k g lam (point 0 m s₀)) m
  pub square : w.good ≡ true → w.acc ≡ residual_square (data_of k g dy lam inv_t) (point 0 m s₀)
  pub dz : w.good ≡ true → part (a + m * (k + 1)) m s ≡ newton_z (data_of k g dy lam inv_t) (point 0 m s₀)
  pub kept : Kept a (m * (k + 1) + m) s₀ s
