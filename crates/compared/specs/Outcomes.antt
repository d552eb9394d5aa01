-- Whether an outcome of the fit is stored from a word on. oracle/src/replay.rs says what stands where.
use Rattle.std.specs.Prelude.{ℕ, ◌+◌, ◌≡◌, Bool, ◌&&◌, List, eqb, Float}
use Rattle.questions.specs.Questions.{Asked}
use Rattle.fit.specs.Fit.{Outcome, refused, fitted, fit}
use Rattle.trend_filter.specs.declared.Summary.{Summary}
use Rattle.trend_filter.specs.Answers.{Buffers, lent, summary_of, answer_of, Answered}
use Rattle.trend_filter.specs.Calls.{numbers_of, counts_of}
use Rattle.stored.specs.Words.{word_at, same_doubles, same_numbers, same_places}

-- whether the numbers of a fit are the words from a on
unfoldable pub same_summary : Summary → List ℕ → ℕ → Bool
same_summary f s a = same_doubles (numbers_of f) s a && same_numbers (counts_of f) s (a + 5)

-- whether a fit is stored from word a on: 0, its numbers, its places
unfoldable pub same_fit : Summary → List Float → List Float → List ℕ → List Float → List ℕ → ℕ → Bool
same_fit f trend cycle knots dual s a = eqb (word_at s a) 0 && (same_summary f s (a + 1) && same_places trend cycle knots dual s (a + 11))

-- whether an outcome is stored from word a on: a refusal is its number
unfoldable pub same_outcome : Outcome → List ℕ → ℕ → Bool
same_outcome (refused q) s a = eqb q (word_at s a)
same_outcome (fitted f) s a = same_fit (summary_of f) f.trend f.cycle f.knots f.dual s a

-- a call with the buffers b before and c after: r says whether its outcome is stored from word i on, and the buffers are as the fit leaves them
pub record Compares (a : Asked) (r : Bool) (b c : Buffers) (s : List ℕ) (i : ℕ) : Type 0 where
  pub same : r ≡ same_outcome (fit a (lent b)) s i
  pub answered : Answered a (answer_of (fit a (lent b))) b c
