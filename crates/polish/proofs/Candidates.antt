-- The candidate made of the solution of the compressed system. Assumes nothing.
use mathlib.Core.Bool.{true, false, cond}
use mathlib.Core.List.{List}
use mathlib.Core.Option.{some}
use mathlib.Core.Path.{◌≡◌, refl, sym, ap, ◌∙◌}
use Prim.Native.Nat.{ℕ, ◌+◌, ◌≤◌, ◌<◌}
use native.Mathlib.Omega.{arith}
use lib.ListN.{length}
use lib.Ieee.{Float, nan}
use Rattle.vectors.specs.Vec.{at, list}
use Rattle.vectors.specs.Parts.{part}
use Rattle.vectors.proofs.Laws.{list_ext, cond_cong}
use Rattle.vectors.proofs.Parts.{at_part, put_back, part-put}
use Rattle.banded.specs.Rows.{sound}
use Rattle.active_set.specs.declared.Hold.{Hold}
use Rattle.active_set.specs.ActiveSet.{is_free, held_at, free_to, compressed, solved}
use Rattle.polish.specs.Polish.{candidate_at, candidate}
use Rattle.active_set.specs.Marks.{held_by, Marks}
use Rattle.polish.specs.Places.{found}
use Rattle.active_set.proofs.Settling.{marks_say}
use Rattle.active_set.proofs.Laws.{free_index, free_ext}

-- a place of it, where q free places come before and the solution stands from b on
pub place_is : (lam : Float) (h : ℕ → Hold) (b m i q : ℕ) (s₀ s : List Float) (x : Float) → q ≡ length (free_to h i) → q < m → at s (b + q) ≡ at s₀ (b + q)
    → x ≡ cond (is_free (h i)) (at s (b + q)) (held_at lam (h i)) → x ≡ candidate_at lam h (part b m s₀) i
unfolding candidate_at
place_is lam h b m i q s₀ s x c l p e =
    e ∙ ap (λ (t : Float). cond (is_free (h i)) t (held_at lam (h i))) (p ∙ sym (at_part b m s₀ q (b + q) l refl) ∙ ap (at (part b m s₀)) c)

module _ {h : ℕ → Hold} {n m q : ℕ} {v : List ℕ} (w : Marks h n m v q) where
  -- the places of the solution y, which stands after b places of x, the l places of s from c on
  pub solution_at : (c l b : ℕ) (s x y : List Float) → c + l ≤ length s → length x ≡ l → b + q ≤ l → q ≤ m → part b q x ≡ y
      → (j : ℕ) → j < q → at (part (c + b) m (put_back c l s x)) j ≡ at y j
  solution_at c l b s x y fits e r t is j u =
      at_part (c + b) m (put_back c l s x) j (c + b + j) (omega arith) refl
      ∙ sym (at_part (c + b) q (put_back c l s x) j (c + b + j) u refl)
      ∙ ap (λ (z : List Float). at z j) (part-put c l s x fits e nan b q r ∙ is)

  place_same : (lam : Float) (x y : List Float) → ((j : ℕ) → j < q → at x j ≡ at y j) → (i : ℕ) → i < m
      → candidate_at lam (held_by n v) x i ≡ candidate_at lam h y i
  unfolding candidate_at
  place_same lam x y e i l =
      let c = w.count in
      let f : free_to (held_by n v) i ≡ free_to h i = free_ext (held_by n v) h i (λ j u. marks_say w j (omega arith)) in
      let t : held_by n v i ≡ h i = marks_say w i l in
      ap (λ (z : Hold). cond (is_free z) (at x (length (free_to (held_by n v) i))) (held_at lam z)) t
      ∙ ap (λ (u : List ℕ). cond (is_free (h i)) (at x (length u)) (held_at lam (h i))) f
      ∙ cond_cong (is_free (h i)) (at x (length (free_to h i))) (at y (length (free_to h i))) (held_at lam (h i))
      (λ p. e (length (free_to h i)) (omega (arith, free_index h i m l p)))

  -- no candidate
  pub candidate_none : (k : ℕ) (g dy : List Float) (lam : Float) (x : List Float) → false ≡ sound k (compressed k g (free_to h m)) q
      → candidate k g dy lam h m ≡ found false x
  unfolding candidate
  candidate_none k g dy lam x e = rw (← w.count, ← e)

  -- the candidate in the m places x, made of the solution, the first q places of y
  pub candidate_some : (k : ℕ) (g dy : List Float) (lam : Float) (x y : List Float) → true ≡ sound k (compressed k g (free_to h m)) q
      → x ≡ list m (candidate_at lam (held_by n v) y) → ((j : ℕ) → j < q → at y j ≡ at (solved k g dy lam h m) j) → candidate k g dy lam h m ≡ found true x
  unfolding candidate
  candidate_some k g dy lam x y e p s =
      rw (← w.count, ← e)
      (ap some (sym (p ∙ list_ext m (candidate_at lam (held_by n v) y) (candidate_at lam h (solved k g dy lam h m)) (place_same lam y (solved k g dy lam h m) s))))
