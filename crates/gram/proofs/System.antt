-- The system (D D') z = D y laid out in a run, and where its solution stands. Assumes nothing.
use mathlib.Core.Path.{◌≡◌, sym, ap, ◌∙◌}
use mathlib.Core.Bool.{Bool, true, false}
use mathlib.Core.List.{List}
use Prim.Native.Nat.{ℕ, ◌+◌, ◌-◌, ◌*◌, ◌≤◌}
use native.Mathlib.Nat.{mul-le-mul_left, zero-add}
use native.Mathlib.Omega.{arith}
use Rattle.std.specs.Prelude.{Option, Some, None}
use lib.ListN.{length, take, drop}
use lib.Ieee.{Float, nan}
use Rattle.vectors.specs.Vec.{put}
use Rattle.vectors.specs.Parts.{Kept, part}
use Rattle.vectors.specs.Sums.{max_abs}
use Rattle.vectors.proofs.Laws.{kept_then}
use Rattle.vectors.proofs.Parts.{put_back, kept_put, part_above}
use Rattle.differences.specs.Diff.{diff_k, gram_row}
use Rattle.differences.specs.Series.{Series}
use Rattle.differences.proofs.Laws.{length-diff_k}
use Rattle.banded.specs.Rows.{rows}
use Rattle.banded.specs.Solve.{solve}
use Rattle.banded.specs.Layout.{Laid}
use Rattle.banded.proofs.Filling.{laid_keeps, keeps_still, side_put}
use Rattle.substitution.specs.Solved.{Solved}
use Rattle.gram.specs.Gram.{gram, zstar, lam_max}
use Rattle.gram.specs.Prepared.{star_lane, diff_lane, preparation, System, Prepared}

-- what is given, as the code has it
some_is : {u v : Float} → ◌≡◌ {A = Option Float} (Some u) (Some v) → v ≡ u
some_is e = cc

-- the system ends before the lane of D y begins
pub system-fits : {k n : ℕ} → Series k n → star_lane k n + (n - k) ≤ diff_lane n
system-fits {k} {n} o = let f : (n - k) * (k + 1) ≤ (n - k) * 3 = mul-le-mul_left (n - k) (omega arith) in omega arith

-- s₁ holds the rows of D D', x the lane of D y, and s₂ also the right side
module _ (k : ℕ) (y s₁ x : List Float) (o : Series k (length y)) (room : preparation (length y) ≤ length s₁) (l : length x ≡ length y - k)
    (right : x ≡ put (take (length y - k) (drop (diff_lane (length y)) s₁)) 0 (diff_k k y)) where
  pub system_laid : {s₀ s₂ : List Float} → Laid k (length y - k) (gram k (gram_row k)) s₀ s₁
      → (part (star_lane k (length y)) (length y - k) s₂ ≡ part (diff_lane (length y)) (length y - k) (put_back (diff_lane (length y)) (length y - k) s₁ x))
      → Kept (star_lane k (length y)) (length y - k) (put_back (diff_lane (length y)) (length y - k) s₁ x) s₂ → System k y s₀ s₂
  system_laid w copied kept =
      let n = length y in
      let m = n - k in
      let fits = system-fits o in
      let f = kept_put (diff_lane n) m s₁ x (omega arith) l nan in
      let lane = side_put (diff_lane n) m s₁ x (omega arith) l (diff_k k y) (length-diff_k k y) right in
      record {
        ends = fits;
        rows = keeps_still k m (keeps_still k m (laid_keeps w) f (omega arith)) kept (omega arith);
        right = copied ∙ lane;
        differences = part_above nan (diff_lane n) m kept (omega arith) ∙ lane;
        kept = kept_then 0 (preparation n) (kept_then 0 (preparation n) w.kept f (omega arith) (omega arith) (omega arith) (omega arith)) kept (omega arith) (omega arith) (omega arith) (omega arith);
      }

-- s₁ holds the system, and s₂ its solution where the pivots are good
module _ (k : ℕ) (y s₀ s₁ s₂ : List Float) {ok : Bool} (h : System k y s₀ s₁) (q : Solved 0 k (length y - k) s₁ s₂ ok) where
  still : Kept 0 (preparation (length y)) s₀ s₂
  still = let ends = h.ends in kept_then 0 (preparation (length y)) h.kept q.kept (omega arith) (omega arith) (omega arith) (omega arith)

  behind : part (diff_lane (length y)) (length y - k) s₂ ≡ diff_k k y
  behind = let ends = h.ends in part_above nan (diff_lane (length y)) (length y - k) q.kept (omega arith) ∙ h.differences

  pub system-bad : ok ≡ false → Prepared k y s₀ s₂ None
  system-bad e = record {
    good = sym e ∙ q.answer (gram k (gram_row k)) h.rows;
    top = λ v n. cc;
    factor = λ n. cc;
    star = λ n. cc;
    differences = behind;
    kept = still;
  }

  pub system-solved : (top : Float) → ok ≡ true → top ≡ max_abs (part (star_lane k (length y)) (length y - k) s₂) → Prepared k y s₀ s₂ (Some top)
  unfolding lam_max zstar
  system-solved top e t =
      let n = length y in
      let a = gram k (gram_row k) in
      let z = zero-add (star_lane k n) in
      let star : part (star_lane k n) (n - k) s₂ ≡ solve k (rows k a (n - k)) (diff_k k y) = (rw z at (q.solution a h.rows e)) ∙ ap (solve k (rows k a (n - k))) h.right in
      record {
        good = sym e ∙ q.answer a h.rows;
        top = λ v n. some_is n ∙ t ∙ ap max_abs star;
        factor = λ n. q.factor a h.rows e;
        star = λ n. star;
        differences = behind;
        kept = still;
      }
