-- Document 02, A11, of the whole fit: what its reason tells (`Rattle.fit.proofs.Demand3` proves it).
use Rattle.std.specs.Prelude.{ℕ, ◌<◌, ◌≡◌, true, ◌⊎◌, eqb}
use Rattle.std.specs.Float.Ieee.{le, eq}
use Rattle.float64.specs.Ops.{c0}
use Rattle.search.specs.declared.Reason.TheVariants.{ClosedPath, LimitSpent}
use Rattle.questions.specs.Questions.{Asked, Lent}
use Rattle.fit.specs.Fit.{FitResult, fitted, lam_max_of, fit}
use Rattle.fit.specs.Demand3.{with_max_iter}

-- for whatever is asked and lent
pub record Lasting (a : Asked) (l : Lent) : Type 0 where
  -- Any reason other than limit spent holds, with the whole answer, for every larger max_iter;
  pub other_reason : (f : FitResult) → fit a l ≡ fitted f → (f.numbers.reason ≡ LimitSpent → ⊥) → (other : ℕ) → a.max_iter < other → fit (with_max_iter other a) l ≡ fitted f
  -- limit spent says that n_iter is max_iter;
  pub spent : (f : FitResult) → fit a l ≡ fitted f → f.numbers.reason ≡ LimitSpent → f.numbers.n_iter ≡ a.max_iter
  -- closed path, that no search was made: L2, or lam 0 or -0, or lam ≥ lam_max.
  pub closed : (f : FitResult) → fit a l ≡ fitted f → f.numbers.reason ≡ ClosedPath → (eqb a.penalty 2 ≡ true) ⊎ ((eq a.lam c0 ≡ true) ⊎ (le (lam_max_of a) a.lam ≡ true))
