-- A looser tolerance costs a fit no more steps: only the search reads the tolerance before the steps are counted.
use mathlib.Core.Path.{◌≡◌, refl, sym, ap, ◌∙◌}
use Prim.Native.Nat.{ℕ, ◌≤◌, zero-le}
use native.Mathlib.Omega.{arith}
use mathlib.Core.Bool.{Bool, true, false, cond}
use lib.Dec.{T, eqb}
use lib.Ieee.{Float, le}
use Rattle.search.specs.Looser.{finite_above0}
use Rattle.search.proofs.Looser.{clear-not_below, looser_search}
use Rattle.interior_point.specs.InteriorPoint.{origin, interior_point}
use Rattle.questions.specs.Questions.{Asked, Lent}
use Rattle.questions.proofs.Laws as questions
use Rattle.fit.specs.Fit.{FitResult, fitted, places, search_of, written, fit}
use Rattle.fit.specs.Ways.{lam_zero, lam_high}
use Rattle.fit.specs.Looser.{with_tol, LooserFit}
use Rattle.fit.proofs.Passed.{passed}
use Rattle.fit.proofs.Demand3.{problem_of, tol_passed, sign_passed, iterations, on_path, path_steps}

-- ---- n_iter of a fit
pub steps : (a : Asked) (l : Lent) (f : FitResult) → fit a l ≡ fitted f → f.numbers.n_iter ≡ on_path a (search_of a).n_iter
unfolding written
steps a l f e = let p = passed a l f e in ap (λ (x : FitResult). x.numbers.n_iter) p.made ∙ ap iterations (sym p.path_is) ∙ path_steps a

-- ---- of the search
search_steps : (a : Asked) (l : Lent) (looser : Float) → questions.Passed a l → T (finite_above0 looser) → T (le a.tol looser) → lam_zero a ≡ false → (search_of (with_tol looser a)).n_iter ≤ (search_of a).n_iter
unfolding search_of interior_point
search_steps a l looser q p t z = looser_search (problem_of a) (λ s. clear-not_below _ (sign_passed a l q z s)) a.tol looser (tol_passed a l q) p t a.max_iter (origin (places a))

fewer : (a : Asked) (x y : ℕ) → (lam_zero a ≡ false → x ≤ y) → on_path a x ≤ on_path a y
fewer a x y h = go (eqb a.penalty 2) (lam_zero a) refl (lam_high a)
  where
    go : (p z : Bool) → lam_zero a ≡ z → (m : Bool) → cond p 0 (cond z 0 (cond m 0 x)) ≤ cond p 0 (cond z 0 (cond m 0 y))
    go true z e m = zero-le
    go false true e m = zero-le
    go false false e true = zero-le
    go false false e false = h e

pub looser_fit : (a : Asked) (looser : Float) → LooserFit a looser
looser_fit a looser t l k f g e h =
    let p = questions.passed a l (passed a l f e).asked in
    let q = questions.passed (with_tol looser a) k (passed (with_tol looser a) k g h).asked in
    let w = fewer a (search_of (with_tol looser a)).n_iter (search_of a).n_iter (search_steps a l looser p (tol_passed (with_tol looser a) k q) t) in
    omega (arith, steps a l f e, steps (with_tol looser a) k g h, w)
