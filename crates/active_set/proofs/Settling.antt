-- The compressed system solved on a run. Assumes nothing.
use mathlib.Core.Bool.{Bool, true}
use mathlib.Core.List.{List}
use mathlib.Core.Path.{◌≡◌, sym, ap, ◌∙◌}
use Prim.Native.Nat.{ℕ, ◌+◌, ◌-◌, ◌*◌, ◌≤◌, ◌<◌}
use native.Mathlib.Omega.{arith}
use native.Mathlib.Nat.{mul-le-mul_left, zero-add}
use lib.ListN.{length, get_or}
use lib.Ieee.{Float}
use Rattle.vectors.specs.Vec.{list}
use Rattle.vectors.specs.Parts.{Kept, part_of, part}
use Rattle.vectors.proofs.Laws.{list_ext, kept_none, kept_then}
use Rattle.differences.specs.Diff.{gram_row}
use Rattle.banded.specs.Rows.{rows, sound}
use Rattle.banded.specs.Solve.{solve, forward, divided, back}
use Rattle.banded.specs.Run.{Keeps}
use Rattle.banded.specs.Layout.{Laid}
use Rattle.banded.proofs.Filling.{laid_keeps, keeps_still}
use Rattle.substitution.specs.Solved.{Solved}
use Rattle.active_set.specs.declared.Hold.{Hold}
use Rattle.active_set.specs.ActiveSet.{free_to, compressed, compressed_rhs_at, compressed_rhs, solved}
use Rattle.active_set.specs.Marks.{hold_of, held_by, Marks, Settled}
use Rattle.active_set.proofs.Laws.{hold_mark, band_ext, right_ext}

module _ {h : ℕ → Hold} {n m q : ℕ} {v : List ℕ} (w : Marks h n m v q) where
  pub marks_say : (j : ℕ) → j < m → held_by n v j ≡ h j
  marks_say j l = ap hold_of (w.held j l) ∙ hold_mark (h j)

  -- the rows over the first marks keep the system over the free places; and the right side is its own
  rows_is : (k : ℕ) (g s : List Float) → Keeps k q (compressed k g v) s → Keeps k q (compressed k g (free_to h m)) s
  rows_is k g s o i j l b e = o i j l b e ∙ band_ext k g v (free_to h m) q w.free i j l b

  right_is : (k : ℕ) (g dy : List Float) (lam : Float) → list q (λ r. compressed_rhs_at k g dy lam (held_by n v) m (get_or v r 0)) ≡ compressed_rhs k g dy lam h m (free_to h m)
  right_is k g dy lam =
      list_ext q (λ r. compressed_rhs_at k g dy lam (held_by n v) m (get_or v r 0)) (λ r. compressed_rhs_at k g dy lam h m (get_or (free_to h m) r 0))
      (λ j l. right_ext k g dy lam (held_by n v) h m (get_or v j 0) marks_say ∙ ap (compressed_rhs_at k g dy lam h m) (w.free j l))
      ∙ ap (λ (x : ℕ). list x (λ r. compressed_rhs_at k g dy lam h m (get_or (free_to h m) r 0))) w.count

-- with nothing to solve
pub settled_none : (k n : ℕ) (dy : List Float) (lam : Float) (v : List ℕ) (q : ℕ) (s : List Float) → q ≡ 0 → Settled k n dy lam v q s s true
unfolding sound solved rows solve forward divided back list part_of
settled_none k n dy lam v q s e = record {
  answer = λ h w. rw e;
  solution = λ h w t. let z : length (free_to h (n - k)) ≡ 0 = sym w.count ∙ e in rw (e, z);
  kept = kept_none 0 (q * (k + 1) + q) s;
}

-- s₀ with the rows, s₁, with the right side, s₂, solved, s₃
pub settled_all : (k q n : ℕ) (g dy : List Float) (lam : Float) (v : List ℕ) (s₀ s₁ s₂ s₃ : List Float) (ok : Bool) → g ≡ gram_row k
    → Laid k q (compressed k g v) s₀ s₁
    → part (q * (k + 1)) q s₂ ≡ list q (λ r. compressed_rhs_at k g dy lam (held_by n v) (n - k) (get_or v r 0)) → Kept (q * (k + 1)) q s₁ s₂
    → Solved 0 k q s₂ s₃ ok → Settled k n dy lam v q s₀ s₃ ok
unfolding solved
settled_all k q n g dy lam v s₀ s₁ s₂ s₃ ok isg bands right two sol =
    let b = q * (k + 1) in
    let holds : (h : ℕ → Hold) → Marks h n (n - k) v q → Keeps k q (compressed k g (free_to h (n - k))) s₂ =
    λ h w. rows_is w k g s₂ (keeps_still k q (laid_keeps bands) two (omega arith)) in
    record {
      answer = λ h w. sol.answer (compressed k g (free_to h (n - k))) (holds h w) ∙ λ i. sound k (compressed k (isg i) (free_to h (n - k))) q;
      solution = λ h w t. rw zero-add at (sol.solution (compressed k g (free_to h (n - k))) (holds h w) t)
          ∙ ap (solve k (rows k (compressed k g (free_to h (n - k))) q)) (right ∙ right_is w k g dy lam)
          ∙ (λ i. solve k (rows k (compressed k g (free_to h (n - k))) (w.count i)) (compressed_rhs k g dy lam h (n - k) (free_to h (n - k))))
          ∙ λ i. solved k (isg i) dy lam h (n - k);
      kept = kept_then 0 (b + q) (kept_then 0 (b + q) bands.kept two (omega arith) (omega arith) (omega arith) (omega arith)) sol.kept (omega arith) (omega arith) (omega arith) (omega arith);
    }

-- the rows and the right side of a system of q among n places
pub room : (k q n : ℕ) → k ≤ 2 → q ≤ n → q * (k + 1) + q ≤ 4 * n
room k q n h l = let f : q * (k + 1) ≤ q * 3 = mul-le-mul_left q (omega arith) in omega arith
