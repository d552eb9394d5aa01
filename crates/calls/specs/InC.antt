-- Document 02, A7, of two calls from C: trend_filter_needs, and trend_filter_fit for the same n, order, penalty and max_iter (`Rattle.calls.proofs.InC` proves it).
use Rattle.std.specs.Prelude.{◌≡◌, List, ℕ, ◌≤◌, get_or, Float}
use Rattle.questions.specs.Questions.{Asked}
use Rattle.questions.specs.Beforehand.{needed_for}
use Rattle.trend_filter.specs.Answers.{Buffers}
use Rattle.trend_filter.specs.Calls.{Called}
use Rattle.trend_filter.specs.Needs.{NeedsTold}

-- the first answers q and leaves w in needs, the second answers r and leaves u in counts
pub record ForetellingInC (q r : ℕ) (w u : List ℕ) : Type 0 where
  -- where the second fits, the first gave figures,
  pub given : r ≡ 0 → q ≡ 0
  -- and n_iter, counts[1], is at most needs[2]
  pub ceiling : r ≡ 0 → get_or u 1 0 ≤ get_or w 2 0

-- of any two such calls
abbrev pub AskedFirstInC : Type 0
AskedFirstInC =
    (a : Asked) (q r : ℕ) (b c : Buffers) (v₀ v : List Float) (u₀ u w₀ w : List ℕ)
    → NeedsTold (needed_for a) q w₀ w → Called a r b c v₀ v u₀ u → ForetellingInC q r w u
