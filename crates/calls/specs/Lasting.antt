-- Document 02, A11, of calls of the entry: what a reason tells of other limits (`Rattle.calls.proofs.TwoCalls` proves it).
use Rattle.std.specs.Prelude.{◌≡◌, ℕ, ◌<◌, Result, Ok}
use Rattle.search.specs.declared.Reason.TheVariants.{LimitSpent}
use Rattle.questions.specs.Questions.{Asked}
use Rattle.trend_filter.specs.declared.Summary.{Summary}
use Rattle.trend_filter.specs.Answers.{Buffers, Answered}
use Rattle.calls.specs.TwoCalls.{TwoCalls, Agree}

-- of any such calls
pub record LastingCalls : Type 0 where
  -- If the first fits with a reason other than limit spent, and the second's max_iter is larger, they agree, in the reason too.
  pub other_reason : (a : Asked) (other : ℕ) (r s : Result Summary ℕ) (b c d e : Buffers) → TwoCalls a other r s b c d e
      → (x : Summary) → r ≡ Ok x → (x.reason ≡ LimitSpent → ⊥) → a.max_iter < other → Agree a r s c e
  -- If a call fits with the reason limit spent, its n_iter is its max_iter.
  pub spent : (a : Asked) (r : Result Summary ℕ) (b c : Buffers) → Answered a r b c → (x : Summary) → r ≡ Ok x → x.reason ≡ LimitSpent → x.n_iter ≡ a.max_iter
