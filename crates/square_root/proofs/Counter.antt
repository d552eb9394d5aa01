-- The two counts of the square root, each kept in eight bits: the digits of a root that are still to come (`short_root`), and the places
-- by which the digits of a subnormal go up (`places`). `Counter` is a clause of both loops' invariants. Assumes nothing.
use mathlib.Core.Path.{◌≡◌}
use Prim.Native.Nat.{ℕ, ◌*◌, ◌%◌, ◌^◌, ◌≤◌, ◌<◌}
use native.Mathlib.Omega.{arith}
use lib.Pow.{pow_mono}

-- a count, wherever its loop's test is reached
pub record Counter (j : ℕ) : Type 0 where
  pub never_past_64 : j ≤ 64

-- the weight of the digit that j more come after, as the machine makes it
pub bit : (j : ℕ) → j < 64 → 1 * 2 ^ j % 2 ^ 64 ≡ 2 ^ j
bit j h = let l : 2 ^ j ≤ 2 ^ 63 = pow_mono {j = 63} (omega arith) in omega arith
