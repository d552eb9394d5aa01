-- Document 01, "Questions before and during a fit", for a caller in C: the answer as a number, and the fit's numbers and counts in two arrays.
use Rattle.std.specs.Prelude.{◌≡◌, cond, List, [], ◌∷◌, ℕ, Float, Result, Ok, Err}
use Rattle.search.specs.Reasons.{reason_number}
use Rattle.questions.specs.Questions.{Asked}
use Rattle.trend_filter.specs.Answers.{Buffers, Answered}
use Rattle.trend_filter.specs.declared.Summary.{Summary}

-- the five numbers of a fit
abbrev pub numbers_of : Summary → List Float
numbers_of s = s.lam_max ∷ s.gap ∷ s.first_gap ∷ s.best_gap ∷ s.objective ∷ []

-- its five counts, the fourth 1 if it converged and else 0, the last the number of its reason
abbrev pub counts_of : Summary → List ℕ
counts_of s = s.knots ∷ s.n_iter ∷ s.improvements ∷ cond s.converged 1 0 ∷ reason_number s.reason ∷ []

-- 0 for a fit, else the refusal's number
abbrev pub code_of : Result Summary ℕ → ℕ
code_of (Ok s) = 0
code_of (Err q) = q

-- what an array that held v holds afterwards: as found after a refusal
abbrev pub filled : {A : Type 0} → (Summary → List A) → Result Summary ℕ → List A → List A
filled x (Ok s) v = x s
filled x (Err q) v = v

-- the answer a as a caller is told it: the code r, and two arrays, which held v₀ and u₀ before and hold v and u after
pub record Told (a : Result Summary ℕ) (r : ℕ) (v₀ v : List Float) (u₀ u : List ℕ) : Type 0 where
  pub code : r ≡ code_of a
  pub numbers : v ≡ filled numbers_of a v₀
  pub counts : u ≡ filled counts_of a u₀

-- The whole of a call: an answer with all its promises, and how it is told.
pub record Called (a : Asked) (r : ℕ) (b c : Buffers) (v₀ v : List Float) (u₀ u : List ℕ) : Type 0 where
  pub answer : Result Summary ℕ
  pub answered : Answered a answer b c
  pub told : Told answer r v₀ v u₀ u
