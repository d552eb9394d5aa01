-- Document 01, "Questions before and during a fit": the records of a call, from a caller's arguments.
use Rattle.std.specs.Prelude.{List, ℕ, Float}
use Rattle.questions.specs.Questions.{Asked, Lent}

-- what is asked for
abbrev pub asking : List Float → Float → Float → ℕ → ℕ → ℕ → Asked
asking y lam tol max_iter order penalty = record { y = y; lam = lam; tol = tol; max_iter = max_iter; order = order; penalty = penalty }

-- the lengths lent
abbrev pub lending : ℕ → ℕ → ℕ → ℕ → ℕ → ℕ → Lent
lending trend cycle knots dual work marks = record { trend = trend; cycle = cycle; knots = knots; dual = dual; work = work; marks = marks }
