-- The trial point, made a part at a time. Assumes nothing.
use mathlib.Core.Path.{◌≡◌, refl, sym, ap, ◌∙◌}
use mathlib.Core.Logic.{⊎_elim}
use mathlib.Core.List.{List}
use Prim.Native.Nat.{ℕ, ◌+◌, ◌-◌, ◌*◌, ◌≤◌, ◌<◌}
use native.Mathlib.Omega.{arith}
use lib.ListN.{length, set}
use lib.Ieee.{Float}
use Rattle.float64.specs.Ops.{◌⊕◌, ◌⊗◌}
use Rattle.vectors.specs.Vec.{at, list}
use Rattle.vectors.specs.Parts.{Kept, Written, part_of, part}
use Rattle.vectors.proofs.Laws.{list_ext, up}
use Rattle.vectors.proofs.Parts.{length_part, at_part, split}
use Rattle.dual_point.specs.Places.{point}
use Rattle.line_search.specs.LineSearch.{stepped, along}
use Rattle.line_search.specs.Places.{moved}

-- one stretch written, and then the next
pub written_then : {lo mid hi : ℕ} {f g : ℕ → Float} {s₀ s₁ s₂ : List Float} → Written lo mid f s₀ s₁ → Written mid hi g s₁ s₂ → lo ≤ mid → mid ≤ hi
    → ((j : ℕ) → mid ≤ j → j < hi → g j ≡ f j) → Written lo hi f s₀ s₂
written_then {mid = mid} v w o h e = record {
  size = w.size ∙ v.size;
  inside = λ j p q. ⊎_elim (λ (l : j < mid). w.below j l ∙ v.inside j p l) (λ (l : mid ≤ j). w.inside j l q ∙ e j l q) (split j mid);
  below = λ j l. w.below j (omega arith) ∙ v.below j l;
  above = λ j l. w.above j l ∙ v.above j (omega arith);
}

-- what a stretch within the n places from a on leaves alone
pub written_within : {lo hi : ℕ} {f : ℕ → Float} {s₀ s : List Float} (a n : ℕ) → Written lo hi f s₀ s → a ≤ lo → hi ≤ a + n → Kept a n s₀ s
written_within a n w o h = record { size = w.size; below = λ j l. w.below j (omega arith); above = λ j l. w.above j (omega arith) }

module _ (b c : ℕ) (step : Float) (s₀ s : List Float) where
  -- one more place of the trial
  pub move-more : (from i : ℕ) → Written (c + from) (c + i) (moved b c step s₀) s₀ s → from ≤ i → i < c → c ≤ b → b + i < length s
      → Written (c + from) (c + (i + 1)) (moved b c step s₀) s₀ (set s (c + i) (at s i ⊕ step ⊗ at s (b + i)))
  move-more from i w o h a l =
      let e : c + (i + 1) ≡ c + i + 1 = omega arith in
      let d : c + i - c ≡ i = omega arith in
      rw e (up w (omega arith) (omega arith) (rw (d, w.below i (omega arith), w.above (b + i) (omega arith))))

  -- a part of the trial, from place e on, where it is made
  part_moved : {lo hi : ℕ} (m x y e : ℕ) → Written lo hi (moved b c step s₀) s₀ s → c + x ≡ e → b + x ≡ y → lo ≤ e → e + m ≤ hi
      → part e m s ≡ stepped step (part x m s₀) (part y m s₀)
  unfolding part_of stepped
  part_moved m x y e w q r o h =
      let f : ℕ → Float = λ i. at (part x m s₀) i ⊕ step ⊗ at (part y m s₀) i in
      list_ext m (λ i. at s (e + i)) f
      (λ j l. let d : e + j - c ≡ x + j = omega arith in let u : b + (x + j) ≡ y + j = omega arith in
      w.inside (e + j) (omega arith) (omega arith) ∙ rw (d, u, at_part x m s₀ j (x + j) l refl, at_part y m s₀ j (y + j) l refl))
      ∙ ap (λ (n : ℕ). list n f) (sym (length_part x m s₀))

-- z of the trial, and then all of it
module _ (m b : ℕ) (step : Float) (s₀ s₁ : List Float) (w : Written (3 * m + 0) (3 * m + m) (moved b (3 * m) step s₀) s₀ s₁) where
  pub z_moved : part (3 * m) m s₁ ≡ (along (point 0 m s₀) (point b m s₀) step).z
  unfolding along
  z_moved = part_moved b (3 * m) step s₀ s₁ m 0 b (3 * m) w (omega arith) (omega arith) (omega arith) (omega arith)

  pub all_moved : (s₂ : List Float) → 6 * m ≤ b → Written (3 * m + m) (3 * m + 3 * m) (moved b (3 * m) step s₁) s₁ s₂
      → (point (3 * m) m s₂ ≡ along (point 0 m s₀) (point b m s₀) step) × Kept (3 * m) (4 * m) s₀ s₂
  unfolding along
  all_moved s₂ o v =
      let a : Written (3 * m + 0) (3 * m + 3 * m) (moved b (3 * m) step s₀) s₀ s₂ =
      written_then w v (omega arith) (omega arith) (λ j l h. rw (w.below (j - 3 * m) (omega arith), w.above (b + (j - 3 * m)) (omega arith))) in (
        (λ i. record {
          z = part_moved b (3 * m) step s₀ s₂ m 0 b (3 * m) a (omega arith) (omega arith) (omega arith) (omega arith) i;
          mu1 = part_moved b (3 * m) step s₀ s₂ m (0 + m) (b + m) (3 * m + m) a (omega arith) (omega arith) (omega arith) (omega arith) i;
          mu2 = part_moved b (3 * m) step s₀ s₂ m (0 + m + m) (b + m + m) (3 * m + m + m) a (omega arith) (omega arith) (omega arith) (omega arith) i;
        }),
        written_within (3 * m) (4 * m) a (omega arith) (omega arith),
      )
