-- The places of lam·D x. Assumes nothing.
use mathlib.Core.Path.{◌≡◌, ◌∙◌}
use mathlib.Core.List.{List}
use Prim.Native.Nat.{ℕ, ◌-◌}
use lib.ListN.{length}
use lib.Ieee.{Float}
use Rattle.float64.specs.Ops.{◌⊗◌}
use Rattle.vectors.specs.Vec.{at}
use Rattle.vectors.proofs.Laws.{length-list}
use Rattle.differences.specs.Diff.{diff_k}
use Rattle.differences.proofs.Laws.{length-diff_k}
use Rattle.l2.specs.L2.{scaled}

pub length-scaled : (lam : Float) (k : ℕ) (x : List Float) → length (scaled lam (diff_k k x)) ≡ length x - k
unfolding scaled
length-scaled lam k x = length-list (length (diff_k k x)) (λ i. lam ⊗ at (diff_k k x) i) ∙ length-diff_k k x
