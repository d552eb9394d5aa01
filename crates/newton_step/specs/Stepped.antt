-- Document 01, "Interior point": what one Newton step asks, what it answers, and the point that it leaves.
use Rattle.std.specs.Prelude.{◌≡◌, Bool, true, false, cond, List, ℕ, ◌+◌, ◌*◌, ◌≤◌, Option, Some, None, Float}
use Rattle.vectors.specs.Parts.{Kept}
use Rattle.vectors.specs.Sums.{inside}
use Rattle.differences.specs.Series.{Order}
use Rattle.banded.specs.Rows.{sound}
use Rattle.newton_system.specs.Newton.{system}
use Rattle.newton_system.specs.Rows.{data_of}
use Rattle.line_search.specs.LineSearch.{search_line, next_point}
use Rattle.dual_point.specs.Places.{point}
use Rattle.newton_step.specs.declared.Step.{Step}
use Rattle.newton_step.specs.declared.Step.TheVariants.{Stayed, Moved}

-- the places of a step: the point, the trial, the rows of the system, the direction
abbrev pub step_area : ℕ → ℕ → ℕ
step_area k m = 6 * m + (m * (k + 1) + 3 * m)

-- the places lent for a step from a point of m numbers, and how many of D y are known
pub record Steppable (k m places known : ℕ) : Type 0 where
  pub order : Order k
  pub some : 1 ≤ m
  pub room : step_area k m ≤ places
  pub dy : m ≤ known

-- a bad pivot loses the step; else it is the line search's, and the point moves if the last trial is inside
abbrev pub step_of : Bool → Bool → Float → Option Step
step_of false b x = None
step_of true false x = Some (Stayed x)
step_of true true x = Some (Moved x)

-- from place a on s₀ holds a point of 3 m numbers, and s the one that the step leaves; nothing differs before or after the places of the step
pub record Stepped (k : ℕ) (g dy : List Float) (lam inv_t : Float) (a m : ℕ) (s₀ s : List Float) (r : Option Step) : Type 0 where
  pub answer : r ≡ step_of (sound k (system k g lam (point a m s₀)) m) (inside lam (search_line (data_of k g dy lam inv_t) (point a m s₀)).point.z) (search_line (data_of k g dy lam inv_t) (point a m s₀)).step
  pub moves : point a m s ≡ cond (sound k (system k g lam (point a m s₀)) m) (next_point lam (point a m s₀) (search_line (data_of k g dy lam inv_t) (point a m s₀))) (point a m s₀)
  pub kept : Kept a (step_area k m) s₀ s
