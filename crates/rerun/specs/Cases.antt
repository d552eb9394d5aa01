-- A stored case: what it asks and lends, and whether the outcome of its fit is the one that is stored with it. oracle/src/replay.rs says what stands where.
use Rattle.std.specs.Prelude.{ℕ, ◌+◌, ◌%◌, Bool, List}
use Rattle.std.specs.Float.{binary64}
use Rattle.std.specs.Float.Ieee.{of_bits}
use Rattle.questions.specs.Questions.{Asked, Lent}
use Rattle.questions.specs.Asking.{lending}
use Rattle.fit.specs.Fit.{fit}
use Rattle.stored.specs.Words.{word_at, doubles_at, lent_at}
use Rattle.stored.specs.declared.Lengths.{Lengths}
use Rattle.compared.specs.Outcomes.{same_outcome}

-- an option of 32 bits
abbrev pub option_at : List ℕ → ℕ → ℕ
option_at s i = word_at s i % 4294967296

-- what the case from word a on asks
unfoldable pub asked_at : List ℕ → ℕ → Asked
asked_at s a = record {
  y = doubles_at s (a + 13) (lent_at s a).n;
  lam = of_bits binary64 (word_at s (a + 10));
  tol = of_bits binary64 (word_at s (a + 11));
  max_iter = word_at s (a + 12);
  order = option_at s (a + 1);
  penalty = option_at s (a + 2);
}

-- what it lends
abbrev pub lending_of : Lengths → Lent
lending_of l = lending l.trend l.cycle l.knots l.dual l.work l.marks

-- whether the outcome of its fit is the stored one
unfoldable pub equal_at : List ℕ → ℕ → Bool
equal_at s a = same_outcome (fit (asked_at s a) (lending_of (lent_at s a))) s (a + 13 + (lent_at s a).n)
