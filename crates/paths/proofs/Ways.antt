-- Which path is taken, and what it took. Assumes nothing.
use mathlib.Core.Path.{◌≡◌, sym, ap, ◌∙◌}
use mathlib.Core.Bool.{Bool, true, false, cond}
use mathlib.Core.List.{List}
use mathlib.Core.Option.{some}
use Prim.Native.Nat.{ℕ}
use Rattle.std.specs.Prelude.{Some}
use lib.ListN.{length}
use lib.Ieee.{Float}
use borrow.Author.Tests.{eq-eqb, ne_eqb}
use Rattle.dual_point.specs.Lanes.{search_area}
use Rattle.questions.specs.Questions.{Asked}
use Rattle.fit.specs.Fit.{Found, search_of, path_zero, path_flat, path_end, path_l1, path_l2, path}
use Rattle.fit.specs.Ways.{lam_zero, lam_high}
use Rattle.closed_paths.specs.declared.Finding.{Finding}
use Rattle.closed_paths.specs.Trends.{ridge_area, search_marks, said, reached}
use Rattle.closed_paths.specs.Taken.{AsksSearch, AsksPath, Finds, Took}
use Rattle.closed_paths.proofs.Areas.{some_none}

-- L1 by lam
pub l1_zero : (a : Asked) → lam_zero a ≡ true → path_l1 a ≡ path_zero a
unfolding path_l1
l1_zero a z = ap (λ (b : Bool). cond b (path_zero a) (cond (lam_high a) (path_flat a) (path_end a (search_of a)))) z

pub l1_high : (a : Asked) (h : Bool) → lam_zero a ≡ false → lam_high a ≡ h → path_l1 a ≡ cond h (path_flat a) (path_end a (search_of a))
unfolding path_l1
l1_high a h z e =
    ap (λ (b : Bool). cond b (path_zero a) (cond (lam_high a) (path_flat a) (path_end a (search_of a)))) z
    ∙ ap (λ (b : Bool). cond b (path_flat a) (path_end a (search_of a))) e

-- by the penalty
pub by_2 : (a : Asked) → a.penalty ≡ 2 → path a ≡ path_l2 a
unfolding path
by_2 a e = rw (eq-eqb a.penalty 2 e)

pub by_1 : (a : Asked) → (a.penalty ≡ 2 → ⊥) → path a ≡ some (path_l1 a)
unfolding path
by_1 a n = rw (ne_eqb a.penalty 2 n)

-- what is asked by the penalty
module _ {k p d : ℕ} {y w c : List Float} {top : Float} {marks : List ℕ} (h : AsksPath k p y top w c d marks) where
  pub asks_2 : p ≡ 2 → AsksSearch k (ridge_area (length y)) 0 y w c d marks
  asks_2 e = rw (eq-eqb p 2 e) at h.search

  pub asks_1 : (p ≡ 2 → ⊥) → AsksSearch k (search_area (length y)) (search_marks (length y)) y w c d marks
  asks_1 n = rw (ne_eqb p 2 n) at h.search

-- a path that finds is one that took, where it is the path of the fit
pub took_done : {I : Type 0} {f : I → Found} {k l : ℕ} {y w₀ w c₀ c d₀ d : List Float} {r : Finding} (a : Asked) (i : I) → Finds f k l y w₀ w c₀ c d₀ d r → path a ≡ some (f i)
    → Took (path a) k l y w₀ w c₀ c d₀ d (Some r)
unfolding said reached
took_done a i h e = record { says = ap some (h.says i) ∙ sym e; stands = h.stands; lost = λ z. absurd (some_none _ (sym e ∙ z)); changed = h.changed }
