-- Demand 3, clause by clause, of the whole fit (`Rattle.fit.proofs.Demand3` proves it).
-- The search counts the iterations and the improvements (`Rattle.search.specs.Search`): the best gap starts as the first gap, and an iteration is an improvement when its gap is below 0.99 times the best gap, the product rounded; then its gap becomes the best.
use Rattle.std.specs.Prelude.{ℕ, ◌≤◌, ◌<◌, ◌≡◌}
use Rattle.search.specs.Reasons.{at_limit}
use Rattle.search.specs.Bounds.{Bounded}
use Rattle.questions.specs.Questions.{Asked, Lent}
use Rattle.fit.specs.Fit.{FitResult, fitted, fit}
use Rattle.fit.specs.Reasons.{with_reason}

-- the numeric bounds on a fit with the step limit max_iter: n_iter, J, first gap and best gap are bounded as a search's are
abbrev pub Bounds : ℕ → FitResult → Type 0
Bounds max_iter f = Bounded max_iter f.numbers.n_iter f.numbers.improvements f.numbers.first_gap f.numbers.best_gap

-- all else alike: the same but for the step limit
abbrev pub with_max_iter : ℕ → Asked → Asked
with_max_iter max_iter a = record { y = a.y; lam = a.lam; tol = a.tol; max_iter = max_iter; order = a.order; penalty = a.penalty }

-- The whole, for whatever is asked and lent. It is stated of every call that isn't refused, whatever its reason: of L2 too, which does no iteration.
-- An outcome is a refusal's number or the whole answer: every place of trend, cycle, knots and dual, and all numbers with the reason. A NaN is one value, so NaN matches NaN.
pub record Demand3 (a : Asked) (l : Lent) : Type 0 where
  pub bounds : (f : FitResult) → fit a l ≡ fitted f → Bounds a.max_iter f
  -- If n_iter is below max_iter, then every other max_iter above n_iter gives the same whole answer with its reason,
  pub alike : (f : FitResult) → fit a l ≡ fitted f → f.numbers.n_iter < a.max_iter → (other : ℕ) → f.numbers.n_iter < other → fit (with_max_iter other a) l ≡ fitted f
  -- and a max_iter of n_iter itself, if that is from 1 up, all of it but the reason: what stalled has then spent its limit.
  pub at_limit : (f : FitResult) → fit a l ≡ fitted f → f.numbers.n_iter < a.max_iter → 1 ≤ f.numbers.n_iter
      → fit (with_max_iter f.numbers.n_iter a) l ≡ fitted (with_reason (at_limit f.numbers.reason) f)
  -- So any two limits above 1,447,640 agree in this way.
  pub settled : (one other : ℕ) → 1447640 < one → 1447640 < other → fit (with_max_iter one a) l ≡ fit (with_max_iter other a) l
