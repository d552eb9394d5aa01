-- A matrix laid out row by row, and a right side behind it. Assumes nothing.
use mathlib.Core.Logic.{⊎_elim}
use mathlib.Core.Path.{◌≡◌, sym, ◌∙◌}
use mathlib.Core.List.{List}
use Prim.Native.Nat.{ℕ, ◌+◌, ◌-◌, ◌*◌, ◌≤◌, ◌<◌}
use native.Mathlib.Nat.{eq-or-lt_of_le}
use native.Mathlib.Omega.{arith}
use lib.ListN.{length, take, drop, length-drop}
use lib.Seq.{take_all, length-take-le}
use lib.Ieee.{Float}
use Rattle.vectors.specs.Vec.{put}
use Rattle.vectors.specs.Parts.{Kept, part, Written, Wrote}
use Rattle.vectors.proofs.Laws.{kept_none}
use Rattle.vectors.proofs.Parts.{mid_is, put_back, mid_put, length-put}
use Rattle.vectors.proofs.Texts.{wrote_take}
use Rattle.banded.specs.Rows.{Matrix, placed}
use Rattle.banded.specs.Run.{Keeps}
use Rattle.banded.specs.Layout.{Laid}
use Rattle.banded.proofs.Laws.{above, one_row, placed_at}

pub laid_none : (k : ℕ) (a : Matrix) (s : List Float) → Laid k 0 a s s
laid_none k a s = record { kept = kept_none 0 (0 * (k + 1)) s; same = λ i j h g. absurd (omega arith) }

pub laid_more : {k r : ℕ} {a : Matrix} {s₀ s s' : List Float} → Laid k r a s₀ s → Written (r * (k + 1)) (r * (k + 1) + (k + 1)) (λ q. placed k a r (q - r * (k + 1))) s s' → Laid k (r + 1) a s₀ s'
laid_more {k} {r} {a} {s₀} {s} {s'} w v =
    let one = one_row k r in
    record {
      kept = record { size = v.size ∙ w.kept.size; below = λ j h. absurd (omega arith); above = λ q h. v.above q (omega arith) ∙ w.kept.above q (omega arith) };
      same = λ i j h g.
          ⊎_elim
          (λ (e : i ≡ r). let d : r * (k + 1) + j - r * (k + 1) ≡ j = omega arith in rw e (v.inside (r * (k + 1) + j) (omega arith) (omega arith) ∙ rw d))
          (λ (l : i < r). v.below (i * (k + 1) + j) (above k r i j l g) ∙ w.same i j l g)
          (eq-or-lt_of_le (omega arith));
    }

pub laid_keeps : {k m : ℕ} {a : Matrix} {s₀ s : List Float} → Laid k m a s₀ s → Keeps k m a s
laid_keeps {k} {m} {a} w i j h b g = w.same i (j + k - i) h (omega arith) ∙ placed_at k a i (j + k - i) j (omega arith)

-- a run whose first rows stay keeps what they keep
pub keeps_still : (k m : ℕ) {a : Matrix} {b n : ℕ} {s s' : List Float} → Keeps k m a s → Kept b n s s' → m * (k + 1) ≤ b → Keeps k m a s'
keeps_still k m h w l i j u g o = w.below (i * (k + 1) + (j + k - i)) (omega (arith, above k m i (j + k - i) u (omega arith))) ∙ h i j u g o

-- ---- a right side v, written over the n places from a on: x is what the call left there

module _ (a n : ℕ) (s x : List Float) (fits : a + n ≤ length s) (l : length x ≡ n) where
  pub side_put : (v : List Float) → length v ≡ n → x ≡ put (take n (drop a s)) 0 v → part a n (put_back a n s x) ≡ v
  side_put v e h =
      let t = take n (drop a s) in
      let lt : length t ≡ n = length-take-le n (drop a s) (omega (arith, length-drop a s)) in
      let w : Wrote t 0 v x n = record { next = omega arith; room = omega arith; text = h } in
      sym (mid_is a n (put_back a n s x) (omega (arith, length-put a n s x fits l))) ∙ mid_put a n s x fits l ∙ sym (take_all n x (omega arith)) ∙ (wrote_take w).0
