-- Document 01, "Questions before and during a fit": the answer of a call, and what every place lent to it then holds. n is the length of y, k the order, m = n - k.
use Rattle.std.specs.Prelude.{◌≡◌, Bool, true, false, List, ℕ, ltb, length, Float, Result, Ok, Err}
use Rattle.std.specs.Float.{nan}
use Rattle.vectors.specs.Vec.{KeptOf}
use Rattle.questions.specs.declared.Figures.{Figures}
use Rattle.questions.specs.Questions.{Asked, Lent, needs_for}
use Rattle.questions.specs.Asking.{lending}
use Rattle.fit.specs.declared.Numbers.{Numbers}
use Rattle.fit.specs.Outputs.{Outputs, outputs}
use Rattle.fit.specs.Fit.{FitResult, Outcome, refused, fitted, fit, Lengths, after}
use Rattle.fit.specs.Demand3.{Bounds}
use Rattle.trend_filter.specs.declared.Summary.{Summary}

-- what the buffers lent to a call hold: trend, cycle, knots and dual, and work and marks, which are scratch
pub record Buffers : Type 0 where
  pub out : Outputs
  pub work : List Float
  pub marks : List ℕ

-- from a function's arguments
abbrev pub buffers : List Float → List Float → List ℕ → List Float → List Float → List ℕ → Buffers
buffers trend cycle knots dual work marks = record { out = outputs trend cycle knots dual; work = work; marks = marks }

-- their lengths
abbrev pub lent : Buffers → Lent
lent b = lending (length b.out.trend) (length b.out.cycle) (length b.out.knots) (length b.out.dual) (length b.work) (length b.marks)

-- the numbers as a caller is told them, with how many knots there are and lam_max
abbrev pub summed : Numbers → ℕ → Float → Summary
summed s knots lam_max = record { knots = knots; lam_max = lam_max; gap = s.gap; first_gap = s.first_gap; best_gap = s.best_gap; objective = s.objective; n_iter = s.n_iter; improvements = s.improvements; converged = s.converged; reason = s.reason }

-- a fit's numbers
unfoldable pub summary_of : FitResult → Summary
summary_of f = summed f.numbers (length f.knots) f.lam_max

-- the answer: a fit with its numbers, or a refusal's number alone
unfoldable pub answer_of : Outcome → Result Summary ℕ
answer_of (refused q) = Err q
answer_of (fitted f) = Ok (summary_of f)

-- whether it is refused by a question of 1 to 9
unfoldable pub early : Outcome → Bool
early (refused q) = ltb q 10
early (fitted f) = false

-- the answer r to an outcome o, with b before and c after in trend, cycle, knots and dual
pub record Gives (o : Outcome) (r : Result Summary ℕ) (b c : Outputs) : Type 0 where
  pub answer : r ≡ answer_of o
  pub out : c ≡ after o b

-- only as many places of work and of marks as are needed, from the first on, may have changed
pub record Scratch (need : Figures) (b c : Buffers) : Type 0 where
  pub work : KeptOf nan 0 need.work b.work c.work
  pub marks : KeptOf 0 0 need.marks b.marks c.marks

-- the whole of a call: a is what was asked, r the answer, b what the buffers held before and c after
pub record Answered (a : Asked) (r : Result Summary ℕ) (b c : Buffers) : Type 0 where
  pub gives : Gives (fit a (lent b)) r b.out c.out
  -- questions 1 to 9 leave work and marks unchanged
  pub unused : early (fit a (lent b)) ≡ true → (c.work ≡ b.work) × (c.marks ≡ b.marks)
  pub scratch : Scratch (needs_for a) b c
  -- how many places a fit writes, and the bounds of demand 3 on its numbers
  pub sizes : (f : FitResult) → fit a (lent b) ≡ fitted f → Lengths a f
  pub bounds : (f : FitResult) → fit a (lent b) ≡ fitted f → Bounds a.max_iter f
