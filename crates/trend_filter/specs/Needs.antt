-- Document 02, A7, for a caller in C: what a fit needs, as a number and three figures.
use Rattle.std.specs.Prelude.{List, [], ◌∷◌, ℕ, Result, Ok, Err}
use Rattle.questions.specs.declared.Figures.{Figures}
use Rattle.trend_filter.specs.Told.{ToldBy}

-- 0 for figures, else the refusal's number
abbrev pub needs_code : Result Figures ℕ → ℕ
needs_code (Ok g) = 0
needs_code (Err q) = q

-- what an array that held v holds afterwards: work, marks and steps, or as found after a refusal
abbrev pub needs_in : Result Figures ℕ → List ℕ → List ℕ
needs_in (Ok g) v = g.work ∷ g.marks ∷ g.steps ∷ []
needs_in (Err q) v = v

-- the answer s as a caller in C is told it: the code r, and an array, which held v₀ before and holds v after
abbrev pub NeedsTold : Result Figures ℕ → ℕ → List ℕ → List ℕ → Type 0
NeedsTold s r v₀ v = ToldBy needs_code needs_in s r v₀ v
