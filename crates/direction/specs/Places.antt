-- What the direction asks of a run and leaves in it: dz stands from b on, after the point in the first places. For the contracts between our own crates.
use Rattle.std.specs.Prelude.{◌≡◌, Bool, true, cond, List, ℕ, ◌+◌, ◌≤◌, Float}
use Rattle.std.specs.Float.Ieee.{le}
use Rattle.float64.specs.Ops.{◌⊗◌, c0·99}
use Rattle.vectors.specs.Parts.{Kept, part}
use Rattle.dual_point.specs.Dual.{Values}
use Rattle.dual_point.specs.Places.{point}
use Rattle.direction.specs.Direction.{dmu1_at, dmu2_at, direction, step_cap_to}

-- how the multiplier mu of the lower bound, or of the upper one, moves
abbrev pub dmu_at : Bool → Float → Float → Float → Float → Float → Float
dmu_at lower lam inv_t z mu dz = let v : Values = record { z = z; mu1 = mu; mu2 = mu } in cond lower (dmu2_at lam inv_t v dz) (dmu1_at lam inv_t v dz)

-- 0.99·e is no less than the step
abbrev pub Edge : Float → Float → Type 0
Edge step e = le step (c0·99 ⊗ e) ≡ true

-- multipliers from c on, and dz from b on; how they move stands from b + c on
pub record Lane (m c b places : ℕ) : Type 0 where
  pub after : m ≤ c
  pub apart : c + m ≤ b
  pub room : b + c + m ≤ places

-- the whole direction from b on, and the step cap
pub record Directed (lam inv_t : Float) (b m : ℕ) (s₀ s : List Float) (cap : Float) : Type 0 where
  pub ways : point b m s ≡ direction lam inv_t (point 0 m s₀) (part b m s₀)
  pub cap_is : cap ≡ step_cap_to (point 0 m s₀) (direction lam inv_t (point 0 m s₀) (part b m s₀)) m
  pub kept : Kept (b + m) (m + m) s₀ s
