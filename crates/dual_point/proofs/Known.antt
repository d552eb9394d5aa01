-- D y in the first places of a run. Assumes nothing.
use mathlib.Core.Path.{◌≡◌, sym, ap, ◌∙◌}
use mathlib.Core.List.{List}
use Prim.Native.Nat.{ℕ, min, ◌-◌, ◌≤◌}
use native.Mathlib.Nat.{min-le_right}
use native.Mathlib.Omega.{arith}
use lib.ListN.{length, take, length-take}
use lib.Ieee.{Float}
use Rattle.differences.specs.Diff.{diff_k}
use Rattle.differences.proofs.Laws.{length-diff_k}

pub dy_long : (k : ℕ) (y dy : List Float) → take (length y - k) dy ≡ diff_k k y → length y - k ≤ length dy
dy_long k y dy e =
    let l : min (length y - k) (length dy) ≡ length y - k = sym (length-take (length y - k) dy) ∙ ap length e ∙ length-diff_k k y in
    omega (arith, l, min-le_right (length y - k) (length dy))
