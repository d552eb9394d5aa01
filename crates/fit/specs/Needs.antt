-- Document 02, A7, of the whole fit: what whoever asks first is told of it (`Rattle.fit.proofs.Needs` proves it).
use Rattle.std.specs.Prelude.{ℕ, ◌≤◌, ◌≡◌, Ok, Err}
use Rattle.questions.specs.declared.Figures.{Figures}
use Rattle.questions.specs.Questions.{Asked, Lent, needs_for, question}
use Rattle.questions.specs.Beforehand.{needed_for}
use Rattle.fit.specs.Fit.{FitResult, refused, fitted, fit}

-- The answer before is for the same n, order, penalty and max_iter.
pub record Foretold (a : Asked) (l : Lent) : Type 0 where
  -- whatever is fitted was given figures, those that question 9 tests,
  pub given : (f : FitResult) → fit a l ≡ fitted f → needed_for a ≡ Ok (needs_for a)
  -- and its n_iter is at most the ceiling given
  pub ceiling : (f : FitResult) → fit a l ≡ fitted f → (g : Figures) → needed_for a ≡ Ok g → f.numbers.n_iter ≤ g.steps
  -- whoever lends the places given is not refused with 9
  pub enough : (g : Figures) → needed_for a ≡ Ok g → g.work ≤ l.work → g.marks ≤ l.marks → fit a l ≡ refused 9 → ⊥
  -- where no figures are given the fit is refused by a question too (`Rattle.questions.specs.Beforehand` says by which)
  pub refuses : (q : ℕ) → needed_for a ≡ Err q → fit a l ≡ refused (question a l)
