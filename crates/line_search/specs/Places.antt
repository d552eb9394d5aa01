-- What a trial and a line search ask of a run and leave in it: the point, the trial after it, what the trial's places add to the square of its residual, and the direction from b on. For the contracts between our own crates.
use Rattle.std.specs.Prelude.{◌≡◌, Bool, true, List, ℕ, ◌+◌, ◌-◌, ◌*◌, ◌≤◌, Float}
use Rattle.float64.specs.Ops.{◌⊕◌, ◌⊗◌}
use Rattle.vectors.specs.Vec.{at}
use Rattle.vectors.specs.Parts.{Kept, Written}
use Rattle.vectors.specs.Sums.{inside}
use Rattle.differences.specs.Series.{Order}
use Rattle.dual_point.specs.Dual.{Dual}
use Rattle.dual_point.specs.Places.{point}
use Rattle.newton_system.specs.Newton.{NewtonData}
use Rattle.newton_system.specs.Rows.{residual_square_of}
use Rattle.line_search.specs.LineSearch.{along, accepted, Trial, trials}

-- ---- the trial: the point stands in the first places, the direction from b on, the trial from c on

-- the room of its places from `from` up to `to`
pub record MoveRoom (from to b c places : ℕ) : Type 0 where
  pub some : from ≤ to
  pub first : to ≤ c
  pub after : c ≤ b
  pub room : b + to ≤ places

-- what the trial at a step has at place j of the run
abbrev pub moved : ℕ → ℕ → Float → List Float → ℕ → Float
moved b c step s j = at s (j - c) ⊕ step ⊗ at s (b + (j - c))

-- ---- what its places add to the square of the residual

-- a trial after the point, m places after it, and as many of D y
pub record TrialRoom (k m places known : ℕ) : Type 0 where
  pub order : Order k
  pub room : 7 * m ≤ places
  pub dy : m ≤ known

-- the places of m from `from` up to `to`; those said to be inner lie k places from either end
pub record Stretch (k m from to : ℕ) (inner : Bool) : Type 0 where
  pub some : from ≤ to
  pub end : to ≤ m
  pub away : inner ≡ true → (k ≤ from) × (to + k ≤ m)

-- after the trial stands what these places of it add to the square of the residual
pub record Squares (c : NewtonData) (m from to : ℕ) (s₀ s : List Float) : Type 0 where
  pub each : Written (6 * m + from) (6 * m + to) (λ j. residual_square_of c (point (3 * m) m s₀) (j - 6 * m)) s₀ s

-- ---- the search

-- its room
pub record LineRoom (k m b places known : ℕ) : Type 0 where
  pub order : Order k
  pub after : 7 * m ≤ b
  pub room : b + 3 * m ≤ places
  pub dy : m ≤ known

-- one trial: whether it is inside and whether it is accepted; inside, it stands after the point
pub record Attempted (c : NewtonData) (m b : ℕ) (step old : Float) (s₀ s : List Float) (within good : Bool) : Type 0 where
  pub in_bounds : within ≡ inside c.lam (along (point 0 m s₀) (point b m s₀) step).z
  pub taken : within ≡ true → point (3 * m) m s ≡ along (point 0 m s₀) (point b m s₀) step
  pub accepts : good ≡ accepted c old (along (point 0 m s₀) (point b m s₀) step) step
  pub kept : Kept (3 * m) (4 * m) s₀ s

-- n trials from s₀ on
abbrev pub searched_from : NewtonData → ℕ → ℕ → Float → List Float → ℕ → Float → Dual → Trial
searched_from c m b old s n step last = trials c (point 0 m s) (point b m s) old n step last

-- what a line search leaves: its step, whether its last trial is inside, and inside that trial after the point
pub record Searched (c : NewtonData) (m b : ℕ) (cap old : Float) (s₀ s : List Float) (step : Float) (within : Bool) : Type 0 where
  pub step_is : (searched_from c m b old s₀ 20 cap (point 0 m s₀)).step ≡ step
  pub in_bounds : within ≡ inside c.lam (searched_from c m b old s₀ 20 cap (point 0 m s₀)).point.z
  pub taken : within ≡ true → point (3 * m) m s ≡ (searched_from c m b old s₀ 20 cap (point 0 m s₀)).point
  pub kept : Kept (3 * m) (4 * m) s₀ s
