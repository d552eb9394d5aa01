-- Division by the pivots and back, a place at a time; and a system solved in its place. Assumes nothing.
use mathlib.Core.Bool.{Bool, true, false}
use mathlib.Core.Logic.{⊎_elim}
use mathlib.Core.List.{List, ◌∷◌}
use mathlib.Core.Path.{◌≡◌, refl, sym, ap, ◌∙◌}
use Prim.Native.Nat.{ℕ, zero, suc, ◌+◌, ◌-◌, ◌*◌, ◌≤◌, ◌<◌, min}
use native.Mathlib.Nat.{ne_of_lt, ne_of_gt, add-zero, min-le_right, min-eq_left, min-eq_right, eq-zero-or-pos}
use native.Mathlib.Numerals.{add-one}
use native.Mathlib.Omega.{arith}
use lib.ListN.{length, set, take, drop, length-set}
use lib.Seq.{get_or-set_same, get_or-set_other}
use lib.Ieee.{Float, nan}
use Rattle.float64.specs.Ops.{◌⊘◌}
use Rattle.float64.proofs.Clash.{clash}
use Rattle.vectors.specs.Vec.{at}
use Rattle.vectors.specs.Parts.{Kept, part}
use Rattle.vectors.proofs.Laws.{length-list, at-list, kept_none, kept_then}
use Rattle.vectors.proofs.Parts.{length_part, part_below, put_back, mid_put, length-put, kept_put, part-put, part-size}
use Rattle.banded.specs.Rows.{of_rows, rows}
use Rattle.banded.specs.Solve.{back_at, forward, divided, back, solve}
use Rattle.banded.specs.Run.{of_run, Holds, Stands}
use Rattle.banded.proofs.Laws.{above, less_from_ext, holds_of, shape_rows, keeps_part, side_part, part_stands, stands_part}
use Rattle.banded.proofs.Forward.{length-forward}
use Rattle.elimination.specs.Decomposed.{Decomposed}
use Rattle.substitution.specs.Solved.{Backed, Carried, Substituted, Solved}

pub rows_kept : {k m b n : ℕ} {f : List (List Float)} {s₀ s : List Float} → Holds k m f s₀ → Kept b n s₀ s → m * (k + 1) ≤ b → Holds k m f s
rows_kept {k} {m} {b} {n} {f} {s₀} {s} h w e =
    record { shape = h.shape; same = λ i j u g. w.below (i * (k + 1) + j) (omega (arith, above k m i j u g)) ∙ h.same i j u g }

-- one more element in front
stands_cons : (b : ℕ) {c : ℕ} (s : List Float) {x y : Float} (u : List Float) → Stands c u s → c ≡ b + 1 → b < length s → x ≡ y → Stands b (y ∷ u) (set s b x)
stands_cons b {c} s {x} {y} u h e fits q zero z = rw add-zero (get_or-set_same s b x nan fits ∙ q)
stands_cons b {c} s {x} {y} u h e fits q (suc j) z =
    let f : b + suc j ≡ c + j = omega arith in
    rw f (get_or-set_other s b (c + j) x nan (ne_of_gt (omega arith)) ∙ h j (omega arith))

-- ---- lengths

pub length-divided : (k : ℕ) (f : List (List Float)) (u : List Float) → length (divided k f u) ≡ length u
unfolding divided
length-divided k f u = length-list (length u) _

pub at-divided : (k : ℕ) (f : List (List Float)) (u : List Float) (i : ℕ) → i < length u → at (divided k f u) i ≡ at u i ⊘ of_rows k f i i
unfolding divided
at-divided k f u i h = at-list (length u) _ i h

pub length_back : (k : ℕ) (f : List (List Float)) (w : List Float) (n : ℕ) → length (back k f w n) ≡ n
unfolding back
length_back k f w zero = refl
length_back k f w (suc n) = ap suc (length_back k f w n)

-- ---- one place more, at q

pub backed_none : (k m : ℕ) (s : List Float) → Backed k m 0 s s
unfolding back
backed_none k m s = record { kept = kept_none (m * (k + 1) + (m - 0)) 0 s; made = λ f u h l st j b. absurd (omega arith) }

module _ {k m t : ℕ} {s₀ s : List Float} {x : Float} (i q : ℕ) (w : Backed k m t s₀ s) (c : t < m) (is : i ≡ m - (t + 1)) (at-q : q ≡ m * (k + 1) + i) (room : m * (k + 1) + m ≤ length s)
    (x-is : x ≡ back_at k (of_run k s) (λ r. at s (m * (k + 1) + r)) (at s (m * (k + 1) + i) ⊘ of_run k s i i) i m) where
  kept_more : Kept q (t + 1) s₀ (set s q x)
  kept_more =
      let v = w.kept in
      record {
        size = length-set s q x ∙ v.size;
        below = λ p u. get_or-set_other s q p x nan (ne_of_lt u) ∙ v.below p (omega arith);
        above = λ p u. get_or-set_other s q p x nan (ne_of_gt (omega arith)) ∙ v.above p (omega arith);
      }

  made_more : (f : List (List Float)) (u : List Float) → Holds k m f s₀ → length u ≡ m → Stands (m * (k + 1)) u s₀ → Stands q (back k f (divided k f u) (suc t)) (set s q x)
  unfolding back back_at
  made_more f u h l st =
      let v = w.kept in
      let b = m * (k + 1) in
      let y = divided k f u in
      let ly : length y ≡ m = length-divided k f u ∙ l in
      let j : length y - (t + 1) ≡ i = omega arith in
      let e : b + (m - t) ≡ q + 1 = omega arith in
      let hs = rows_kept h v (omega arith) in
      let old : at s (b + i) ⊘ of_run k s i i ≡ at y i = rw (v.below (b + i) (omega arith), st i (omega arith), hs.same i (i + k - i) (omega arith) (omega arith), at-divided k f u i (omega arith)) in
      stands_cons q s (back k f y t) (w.made f u h l st) e (omega arith)
      (x-is ∙ rw (j, ly, old)
      (less_from_ext (at y i) _ _ (i + 1) (min (i + k + 1) m)
      (λ r lo hi.
      let d : r < m = omega (arith, min-le_right (i + k + 1) m) in
      let g : b + r ≡ b + (m - t) + (r - (i + 1)) = omega arith in
      rw (hs.same r (i + k - r) d (omega arith), g, w.made f u h l st (r - (i + 1)) (omega (arith, length_back k f y t))))))

  pub backed_more : {t' : ℕ} → t' ≡ t + 1 → Backed k m t' s₀ (set s q x)
  backed_more z =
      let p : m * (k + 1) + (m - (t + 1)) ≡ q = omega arith in
      rw z (record { kept = rw p kept_more; made = λ f u h l st. rw (p, add-one t) (made_more f u h l st) })

-- ---- one place more of a stretch, one stretch after another, and all of it

pub carried_none : (k m t : ℕ) (s : List Float) → Carried k m t t s s
carried_none k m t s = record { size = refl; done = λ v h. h }

pub carried_more : {k m from t t' : ℕ} {s₀ s : List Float} {x : Float} (i q : ℕ) → Carried k m from t s₀ s → t < m → i ≡ m - (t + 1) → q ≡ m * (k + 1) + i → m * (k + 1) + m ≤ length s
    → x ≡ back_at k (of_run k s) (λ r. at s (m * (k + 1) + r)) (at s (m * (k + 1) + i) ⊘ of_run k s i i) i m → t' ≡ t + 1 → Carried k m from t' s₀ (set s q x)
carried_more {s = s} {x = x} i q w c is at-q room x-is z = record { size = length-set s q x ∙ w.size; done = λ v h. backed_more i q (w.done v h) c is at-q room x-is z }

pub carried_then : {k m a b c : ℕ} {s₀ s s' : List Float} → Carried k m a b s₀ s → Carried k m b c s s' → Carried k m a c s₀ s'
carried_then v w = record { size = w.size ∙ v.size; done = λ u h. w.done u (v.done u h) }

pub substituted : {k m : ℕ} {s₀ s : List Float} → Carried k m 0 m s₀ s → Substituted k m s₀ s
substituted {k} {m} {s₀} {s} w =
    let n = m * (k + 1) in
    let z : n + (m - m) ≡ n = omega arith in
    let u = part n m s₀ in
    let b = w.done s₀ (backed_none k m s₀) in
    record {
      kept = rw z at b.kept;
      made = λ f sh e. stands_part n m (back k f (divided k f u) m) s (length_back k f (divided k f u) m)
          (rw z at (b.made f u (holds_of k m f s₀ sh e) (length_part n m s₀) (part_stands n m s₀)));
    }

pub solve_is : (k m : ℕ) (f : List (List Float)) (b : List Float) → length b ≡ m → solve k f b ≡ back k f (divided k f (forward k f b m)) m
unfolding solve
solve_is k m f b l = rw (l, length-divided k f (forward k f b m), length-forward k f b m)

-- where the last min k m places are not all, there are more than k, and those are k
pub more_than : {k m n : ℕ} → n ≡ min k m → (n ≡ m → ⊥) → k < m
more_than {k} {m} {n} e h =
    ⊎_elim
    (λ (z : m - k ≡ 0). absurd (h (e ∙ min-eq_right {n = m} {m = k} (omega arith))))
    (λ (z : 0 < m - k). omega arith)
    (eq-zero-or-pos (m - k))

pub last_k : {k m n : ℕ} → n ≡ min k m → (n ≡ m → ⊥) → n ≡ k
last_k {k} {m} {n} e h = let l = more_than e h in e ∙ min-eq_left {n = k} {m = m} (omega arith)

-- ---- a system that stands from place p of a longer run on: what the calls on its places leave

module _ (p : ℕ) (s : List Float) {k m : ℕ} {x : List Float} {ok : Bool} (room : p + (m * (k + 1) + m) ≤ length s) (d : Decomposed k m (take (m * (k + 1) + m) (drop p s)) x ok) where
  places : length x ≡ m * (k + 1) + m
  places = part-size p (m * (k + 1) + m) s x room d.kept.size

  pub solved_bad : ok ≡ false → Solved p k m s (put_back p (m * (k + 1) + m) s x) false
  solved_bad bad = record {
    kept = kept_put p (m * (k + 1) + m) s x room places nan;
    answer = λ a g. sym bad ∙ d.answer a (keeps_part k p m s room g);
    factor = λ a g y. absurd (clash y refl);
    solution = λ a g y. absurd (clash y refl);
  }

  pub solved-good : {x' : List Float} → ok ≡ true → Substituted k m (take (m * (k + 1) + m) (drop p (put_back p (m * (k + 1) + m) s x))) x'
      → Solved p k m s (put_back p (m * (k + 1) + m) (put_back p (m * (k + 1) + m) s x) x') true
  solved-good {x'} good w =
      let n = m * (k + 1) in
      let s₁ = put_back p (n + m) s x in
      let same = mid_put p (n + m) s x room places in
      let v : Substituted k m x x' = rw same at w in
      let room₁ : p + (n + m) ≤ length s₁ = omega (arith, length-put p (n + m) s x room places) in
      let places' : length x' ≡ n + m = v.kept.size ∙ places in
      let z : p + 0 ≡ p = omega arith in
      record {
        kept = kept_then p (n + m) (kept_put p (n + m) s x room places nan) (kept_put p (n + m) s₁ x' room₁ places' nan) (omega arith) (omega arith) (omega arith) (omega arith);
        answer = λ a g. sym good ∙ d.answer a (keeps_part k p m s room g);
        factor = λ a g y. rw z at (part-put p (n + m) s₁ x' room₁ places' nan 0 n (omega arith)) ∙ part_below nan 0 n v.kept (omega arith) ∙ d.factor a (keeps_part k p m s room g) good;
        solution = λ a g y.
            let f = rows k a m in
            let b = part (p + n) m s in
            part-put p (n + m) s₁ x' room₁ places' nan n m (omega arith)
            ∙ v.made f (shape_rows k a m) (d.factor a (keeps_part k p m s room g) good)
            ∙ ap (λ (u : List Float). back k f (divided k f u) m) (d.side a (keeps_part k p m s room g) good ∙ ap (λ (u : List Float). forward k f u m) (side_part k p m s room))
            ∙ sym (solve_is k m f b (length_part (p + n) m s));
      }
