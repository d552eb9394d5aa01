-- Orders 1 and 2, away from the last rows: what the general definition comes to there. Assumes nothing.
use mathlib.Core.List.{List}
use mathlib.Core.Path.{◌≡◌, refl, sym, ap, ◌∙◌}
use Prim.Native.Nat.{ℕ, ◌+◌, ◌*◌, ◌<◌}
use native.Mathlib.Nat.{min-eq_left}
use native.Mathlib.Omega.{arith}
use lib.Ieee.{Float}
use Rattle.float64.specs.Ops.{◌⊖◌, ◌⊗◌, ◌⊘◌}
use Rattle.vectors.specs.Vec.{at}
use Rattle.banded.specs.Rows.{Matrix, less_from}
use Rattle.banded.specs.Solve.{back_at}
use Rattle.banded.specs.Run.{of_run}
use Rattle.banded.proofs.Laws.{less_from_1, less_from_2}

-- a row with k more after it, any order
back_far : (k : ℕ) (l : Matrix) (x : ℕ → Float) (v : Float) (i m : ℕ) → i + k < m → back_at k l x v i m ≡ less_from v (λ r. l r i ⊗ x r) (i + 1) (i + k + 1)
unfolding back_at
back_far k l x v i m h = rw (min-eq_left {n = i + k + 1} {m = m} (omega arith))

-- ---- a place of the solution of either order, from the one or two after it

module _ (s : List Float) (m i : ℕ) where
  pub step_1 : {x : Float} → i + 1 < m → x ≡ at s (m * 2 + (i + 1))
      → at s (m * 2 + i) ⊘ at s (i * 2 + 1) ⊖ at s (i * 2 + 2) ⊗ x ≡ back_at 1 (of_run 1 s) (λ r. at s (m * 2 + r)) (at s (m * 2 + i) ⊘ of_run 1 s i i) i m
  step_1 {x} g e =
      let d : of_run 1 s i i ≡ at s (i * 2 + 1) = ap (at s) (omega arith) in
      let l : of_run 1 s (i + 1) i ≡ at s (i * 2 + 2) = ap (at s) (omega arith) in
      let v = at s (m * 2 + i) ⊘ of_run 1 s i i in
      sym (back_far 1 (of_run 1 s) (λ r. at s (m * 2 + r)) v i m g ∙ less_from_1 v _ (i + 1) (i + 1 + 1) refl ∙ rw (d, l, e))

  pub step_2 : {x1 x2 : Float} → i + 2 < m → x1 ≡ at s (m * 3 + (i + 1)) → x2 ≡ at s (m * 3 + (i + 2))
      → at s (m * 3 + i) ⊘ at s (i * 3 + 2) ⊖ at s (i * 3 + 4) ⊗ x1 ⊖ at s (i * 3 + 6) ⊗ x2
      ≡ back_at 2 (of_run 2 s) (λ r. at s (m * 3 + r)) (at s (m * 3 + i) ⊘ of_run 2 s i i) i m
  step_2 {x1} {x2} g e1 e2 =
      let d : of_run 2 s i i ≡ at s (i * 3 + 2) = ap (at s) (omega arith) in
      let l1 : of_run 2 s (i + 1) i ≡ at s (i * 3 + 4) = ap (at s) (omega arith) in
      let l2 : of_run 2 s (i + 2) i ≡ at s (i * 3 + 6) = ap (at s) (omega arith) in
      let v = at s (m * 3 + i) ⊘ of_run 2 s i i in
      sym (back_far 2 (of_run 2 s) (λ r. at s (m * 3 + r)) v i m g ∙ less_from_2 v _ (i + 1) (i + 2) (i + 2 + 1) (omega arith) refl ∙ rw (d, l1, l2, e1, e2))
