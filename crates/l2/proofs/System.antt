-- The system (I + lam D'D) x = y in one run: its rows, y put after them, and its solution. Assumes nothing.
use mathlib.Core.Bool.{Bool}
use mathlib.Core.Path.{◌≡◌, refl, ap, ◌∙◌}
use mathlib.Core.List.{List}
use Prim.Native.Nat.{ℕ, ◌+◌, ◌*◌, ◌≤◌}
use native.Mathlib.Nat.{zero-add}
use native.Mathlib.Omega.{arith}
use lib.ListN.{length, take, drop}
use lib.Ieee.{Float, nan}
use Rattle.vectors.specs.Vec.{put}
use Rattle.vectors.proofs.Laws.{kept_then}
use Rattle.vectors.proofs.Parts.{put_back, kept_put}
use Rattle.banded.specs.Rows.{rows}
use Rattle.banded.specs.Solve.{solve}
use Rattle.banded.specs.Layout.{Laid}
use Rattle.banded.proofs.Filling.{laid_keeps, keeps_still, side_put}
use Rattle.substitution.specs.Solved.{Solved}
use Rattle.l2.specs.L2.{system_l2, sound_l2, trend_l2}
use Rattle.l2.specs.Solved.{SolvedL2}

-- s₁ holds the rows and x the places after them, s₂ the solution
module _ (k : ℕ) (lam : Float) (y s₁ x : List Float) (room : length y * (k + 1) + length y ≤ length s₁) (l : length x ≡ length y)
    (right : x ≡ put (take (length y) (drop (length y * (k + 1)) s₁)) 0 y) where
  pub l2_solved : {s₀ s₂ : List Float} {ok : Bool} → Laid k (length y) (system_l2 k y lam) s₀ s₁
      → Solved 0 k (length y) (put_back (length y * (k + 1)) (length y) s₁ x) s₂ ok → SolvedL2 k y lam s₀ s₂ ok
  unfolding sound_l2 trend_l2
  l2_solved w q =
      let n = length y in
      let b = n * (k + 1) in
      let a = system_l2 k y lam in
      let f = kept_put b n s₁ x room l nan in
      let held = keeps_still k n (laid_keeps w) f (omega arith) in
      let lane = side_put b n s₁ x room l y refl right in
      let z = zero-add b in
      record {
        sound = q.answer a held;
        trend = λ e. (rw z at (q.solution a held e)) ∙ ap (solve k (rows k a n)) lane;
        kept = kept_then 0 (b + n) (kept_then 0 (b + n) w.kept f (omega arith) (omega arith) (omega arith) (omega arith)) q.kept (omega arith) (omega arith) (omega arith) (omega arith);
      }
