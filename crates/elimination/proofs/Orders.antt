-- Orders 1 and 2, away from the first rows: what the general definitions come to there. Assumes nothing.
use mathlib.Core.List.{List, [], ◌∷◌}
use mathlib.Core.Path.{◌≡◌, refl, sym, ap, ◌∙◌}
use Prim.Native.Nat.{ℕ, ◌+◌, ◌-◌, ◌*◌, ◌≤◌, ◌<◌}
use native.Mathlib.Omega.{arith}
use lib.Ieee.{Float}
use borrow.Author.Tests.{lt-ltb, le-ltb}
use Rattle.float64.specs.Ops.{◌⊖◌, ◌⊗◌, ◌⊘◌}
use Rattle.vectors.specs.Vec.{at}
use Rattle.banded.specs.Rows.{Matrix, reduced, entry, placed, good}
use Rattle.banded.specs.Solve.{forward_at}
use Rattle.banded.specs.Run.{of_run, Stored, Eliminated}
use Rattle.banded.proofs.Laws.{less_from_none, less_from_1, less_from_2, placed_at}
use Rattle.banded.proofs.Storing.{first_two, first_three}
use Rattle.elimination.specs.Next.{Next1Made, Next2Made}
use Rattle.elimination.specs.declared.Row1.{Row1}
use Rattle.elimination.specs.declared.Row2.{Row2}
use Rattle.elimination.proofs.Elimination.{eliminated}

-- ---- a place left of the diagonal, column j, and the last place

module _ (k : ℕ) (a l : Matrix) (r : ℕ) where
  left : (c j : ℕ) → j + k ≡ r + c → j < r → placed k (entry k a l) r c ≡ reduced k a l r j ⊘ l j j
  unfolding entry
  left c j e h = placed_at k (entry k a l) r c j e ∙ rw (lt-ltb j r h)

  last : placed k (entry k a l) r k ≡ reduced k a l r r
  unfolding entry
  last = placed_at k (entry k a l) r k r refl ∙ rw (le-ltb r r (omega arith))

-- ---- order 1

module _ (a l : Matrix) (r : ℕ) (far : 1 ≤ r) where
  pub entry_1_0 : placed 1 (entry 1 a l) r 0 ≡ a r (r - 1) ⊘ l (r - 1) (r - 1)
  unfolding reduced
  entry_1_0 = left 1 a l r 0 (r - 1) (omega arith) (omega arith) ∙ rw (less_from_none (a r (r - 1)) (λ t. l r t ⊗ l (r - 1) t ⊗ l t t) (r - 1) (r - 1) (omega arith))

  pub entry_1_1 : placed 1 (entry 1 a l) r 1 ≡ a r r ⊖ l r (r - 1) ⊗ l r (r - 1) ⊗ l (r - 1) (r - 1)
  unfolding reduced
  entry_1_1 = last 1 a l r ∙ less_from_1 (a r r) (λ t. l r t ⊗ l r t ⊗ l t t) (r - 1) r (omega arith)

  pub forward_1 : (u : ℕ → Float) (v : Float) → forward_at 1 l u v r ≡ v ⊖ l r (r - 1) ⊗ u (r - 1)
  unfolding forward_at
  forward_1 u v = less_from_1 v (λ j. l r j ⊗ u j) (r - 1) r (omega arith)

-- ---- order 2

module _ (a l : Matrix) (r : ℕ) (far : 2 ≤ r) where
  pub entry_2_0 : placed 2 (entry 2 a l) r 0 ≡ a r (r - 2) ⊘ l (r - 2) (r - 2)
  unfolding reduced
  entry_2_0 = left 2 a l r 0 (r - 2) (omega arith) (omega arith) ∙ rw (less_from_none (a r (r - 2)) (λ t. l r t ⊗ l (r - 2) t ⊗ l t t) (r - 2) (r - 2) (omega arith))

  pub entry_2_1 : placed 2 (entry 2 a l) r 1 ≡ (a r (r - 1) ⊖ l r (r - 2) ⊗ l (r - 1) (r - 2) ⊗ l (r - 2) (r - 2)) ⊘ l (r - 1) (r - 1)
  unfolding reduced
  entry_2_1 = left 2 a l r 1 (r - 1) (omega arith) (omega arith) ∙ rw (less_from_1 (a r (r - 1)) (λ t. l r t ⊗ l (r - 1) t ⊗ l t t) (r - 2) (r - 1) (omega arith))

  pub entry_2_2 : placed 2 (entry 2 a l) r 2 ≡ a r r ⊖ l r (r - 2) ⊗ l r (r - 2) ⊗ l (r - 2) (r - 2) ⊖ l r (r - 1) ⊗ l r (r - 1) ⊗ l (r - 1) (r - 1)
  unfolding reduced
  entry_2_2 = last 2 a l r ∙ less_from_2 (a r r) (λ t. l r t ⊗ l r t ⊗ l t t) (r - 2) (r - 1) r (omega arith) (omega arith)

  pub forward_2 : (u : ℕ → Float) (v : Float) → forward_at 2 l u v r ≡ v ⊖ l r (r - 2) ⊗ u (r - 2) ⊖ l r (r - 1) ⊗ u (r - 1)
  unfolding forward_at
  forward_2 u v = less_from_2 v (λ j. l r j ⊗ u j) (r - 2) (r - 1) r (omega arith) (omega arith)

-- ---- a row of order 1 or 2 that was stored whole

-- row r stored leaves the rows above it, and the right side before place r
module _ {k m r : ℕ} {v : ℕ → Float} {x : Float} {s t : List Float} (st : Stored k m r v x s t) where
  up : (i j : ℕ) → i < r * (k + 1) → j ≡ i → at t j ≡ at s i
  up i j l e = ap (at t) e ∙ st.elsewhere.below i l

  beside : (i j : ℕ) → (r + 1) * (k + 1) ≤ i → i < m * (k + 1) + r → j ≡ i → at t j ≡ at s i
  beside i j l g e = ap (at t) e ∙ st.elsewhere.between i l g

  here : (c j : ℕ) → c ≤ k → j ≡ r * (k + 1) + c → at t j ≡ v c
  here c j l e = ap (at t) e ∙ st.row c l

-- the numbers that it was made of stood in the run
module _ {m r : ℕ} {s t : List Float} {a b x d u : Float} {w : Row1} (far : 1 ≤ r) (h : r < m) (st : Stored 1 m r (at (w.left ∷ w.pivot ∷ [])) w.side s t) (new : Next1Made a b x d u w)
    (a-is : at s (r * 2) ≡ a) (b-is : at s (r * 2 + 1) ≡ b) (x-is : at s (m * 2 + r) ≡ x) (d-is : at s (r * 2 - 1) ≡ d) (u-is : at s (m * 2 + r - 1) ≡ u) where
  pub eliminated_1 : Eliminated 1 m r s t (good w.pivot)
  eliminated_1 =
      let z : of_run 1 s r (r - 1) ≡ a = ap (at s) (omega arith) ∙ a-is in
      let y : of_run 1 s r r ≡ b = ap (at s) (omega arith) ∙ b-is in
      let l : of_run 1 t r (r - 1) ≡ w.left = here st 0 (r * 2 + (r - 1 + 1 - r)) (omega arith) (omega arith) in
      let p : of_run 1 t (r - 1) (r - 1) ≡ d = up st (r * 2 - 1) ((r - 1) * 2 + (r - 1 + 1 - (r - 1))) (omega arith) (omega arith) ∙ d-is in
      let q : at t (m * 2 + (r - 1)) ≡ u = beside st (m * 2 + r - 1) (m * 2 + (r - 1)) (omega arith) (omega arith) (omega arith) ∙ u-is in
      eliminated st
      (first_two (at (w.left ∷ w.pivot ∷ [])) (placed 1 (entry 1 (of_run 1 s) (of_run 1 t)) r) (new.left ∙ sym (entry_1_0 (of_run 1 s) (of_run 1 t) r far ∙ rw (z, p)))
      (new.pivot ∙ sym (entry_1_1 (of_run 1 s) (of_run 1 t) r far ∙ rw (y, l, p))))
      (new.side ∙ sym (forward_1 (of_run 1 s) (of_run 1 t) r far (λ j. at t (m * 2 + j)) (at s (m * 2 + r)) ∙ rw (l, q, x-is))) refl

module _ {m r : ℕ} {s t : List Float} {a b c x d2 l d1 u2 u1 : Float} {w : Row2} (far : 2 ≤ r) (h : r < m) (st : Stored 2 m r (at (w.far ∷ w.left ∷ w.pivot ∷ [])) w.side s t)
    (new : Next2Made a b c x d2 l d1 u2 u1 w) (a-is : at s (r * 3) ≡ a) (b-is : at s (r * 3 + 1) ≡ b) (c-is : at s (r * 3 + 2) ≡ c) (x-is : at s (m * 3 + r) ≡ x)
    (d2-is : at s (r * 3 - 4) ≡ d2) (l-is : at s (r * 3 - 2) ≡ l) (d1-is : at s (r * 3 - 1) ≡ d1) (u2-is : at s (m * 3 + r - 2) ≡ u2) (u1-is : at s (m * 3 + r - 1) ≡ u1) where
  pub eliminated_2 : Eliminated 2 m r s t (good w.pivot)
  eliminated_2 =
      let z : of_run 2 s r (r - 2) ≡ a = ap (at s) (omega arith) ∙ a-is in
      let y : of_run 2 s r (r - 1) ≡ b = ap (at s) (omega arith) ∙ b-is in
      let v : of_run 2 s r r ≡ c = ap (at s) (omega arith) ∙ c-is in
      let p : of_run 2 t r (r - 2) ≡ w.far = here st 0 (r * 3 + (r - 2 + 2 - r)) (omega arith) (omega arith) in
      let q : of_run 2 t r (r - 1) ≡ w.left = here st 1 (r * 3 + (r - 1 + 2 - r)) (omega arith) (omega arith) in
      let e2 : of_run 2 t (r - 2) (r - 2) ≡ d2 = up st (r * 3 - 4) ((r - 2) * 3 + (r - 2 + 2 - (r - 2))) (omega arith) (omega arith) ∙ d2-is in
      let e1 : of_run 2 t (r - 1) (r - 1) ≡ d1 = up st (r * 3 - 1) ((r - 1) * 3 + (r - 1 + 2 - (r - 1))) (omega arith) (omega arith) ∙ d1-is in
      let k : of_run 2 t (r - 1) (r - 2) ≡ l = up st (r * 3 - 2) ((r - 1) * 3 + (r - 2 + 2 - (r - 1))) (omega arith) (omega arith) ∙ l-is in
      let f2 : at t (m * 3 + (r - 2)) ≡ u2 = beside st (m * 3 + r - 2) (m * 3 + (r - 2)) (omega arith) (omega arith) (omega arith) ∙ u2-is in
      let f1 : at t (m * 3 + (r - 1)) ≡ u1 = beside st (m * 3 + r - 1) (m * 3 + (r - 1)) (omega arith) (omega arith) (omega arith) ∙ u1-is in
      eliminated st
      (first_three (at (w.far ∷ w.left ∷ w.pivot ∷ [])) (placed 2 (entry 2 (of_run 2 s) (of_run 2 t)) r) (new.far ∙ sym (entry_2_0 (of_run 2 s) (of_run 2 t) r far ∙ rw (z, e2)))
      (new.left ∙ sym (entry_2_1 (of_run 2 s) (of_run 2 t) r far ∙ rw (y, p, k, e2, e1)))
      (new.pivot ∙ sym (entry_2_2 (of_run 2 s) (of_run 2 t) r far ∙ rw (v, p, q, e2, e1))))
      (new.side ∙ sym (forward_2 (of_run 2 s) (of_run 2 t) r far (λ j. at t (m * 3 + j)) (at s (m * 3 + r)) ∙ rw (p, q, f2, f1, x-is))) refl
