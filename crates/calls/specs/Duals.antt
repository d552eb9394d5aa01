-- Document 02, A3, of a call of the entry: the dual point that it hands out (`Rattle.calls.proofs.Duals` proves it).
use Rattle.std.specs.Prelude.{◌≡◌, ℕ, take, Result, Ok}
use Rattle.questions.specs.Questions.{Asked}
use Rattle.fit.specs.Fit.{places}
use Rattle.fit.specs.Duals.{Rechecks}
use Rattle.trend_filter.specs.declared.Summary.{Summary}
use Rattle.trend_filter.specs.Answers.{Buffers, Answered}

-- After a call that fits, the first m places of dual tell this of its gap and its objective.
abbrev pub DualCalls : Type 0
DualCalls = (a : Asked) (r : Result Summary ℕ) (b c : Buffers) → Answered a r b c → (x : Summary) → r ≡ Ok x → Rechecks a (take (places a) c.out.dual) x.gap x.objective
