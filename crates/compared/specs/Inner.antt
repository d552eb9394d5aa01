-- What the function below `same_outcome` asks and answers: an answer, and slices whose first places are a fit's.
use Rattle.std.specs.Prelude.{ℕ, ◌-◌, ◌≤◌, Bool, List, take, eqb, Float, Result, Ok, Err}
use Rattle.trend_filter.specs.declared.Summary.{Summary}
use Rattle.stored.specs.Words.{word_at}
use Rattle.compared.specs.Outcomes.{same_fit}

-- whether an answer is stored from word a on, where the places of a fit of n, with m differences, stand first in longer slices
unfoldable pub same_answer : Result Summary ℕ → ℕ → ℕ → List Float → List Float → List ℕ → List Float → List ℕ → ℕ → Bool
same_answer (Err q) n m trend cycle knots dual s a = eqb q (word_at s a)
same_answer (Ok f) n m trend cycle knots dual s a = same_fit f (take (n - 0) trend) (take (n - 0) cycle) (take (f.knots - 0) knots) (take (m - 0) dual) s a

-- slices of t, c, k and d places hold a fit of n, which is a week's at most, with m differences and so many knots
pub record Holds (knots n m t c k d : ℕ) : Type 0 where
  pub trend : n ≤ t
  pub cycle : n ≤ c
  pub knots_in : knots ≤ k
  pub dual : m ≤ d
  pub week : n ≤ 168
  pub fewer : m ≤ n
  pub few : knots ≤ 168

-- the slices hold an answer
abbrev pub Room : Result Summary ℕ → ℕ → ℕ → ℕ → ℕ → ℕ → ℕ → Type 0
Room (Err q) n m t c k d = Unit
Room (Ok f) n m t c k d = Holds f.knots n m t c k d
