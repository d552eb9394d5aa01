-- Document 02, A13, of two calls of the entry: a looser tolerance costs no more steps (`Rattle.calls.proofs.Looser` proves it).
use Rattle.std.specs.Prelude.{◌≤◌, ◌≡◌, ℕ, T, Float, Result, Ok}
use Rattle.std.specs.Float.Ieee.{le}
use Rattle.questions.specs.Questions.{Asked}
use Rattle.fit.specs.Looser.{with_tol}
use Rattle.trend_filter.specs.declared.Summary.{Summary}
use Rattle.trend_filter.specs.Answers.{Buffers, Answered}

-- The first call asks a, answers r, finds b in the buffers and leaves c. The second asks the same with the tolerance `looser`, answers s, finds d and leaves e. Where both fit and looser is not below the first's tol, the second's n_iter is not above the first's. What the buffers held before may differ, and so may their lengths.
abbrev pub LooserCalls : Type 0
LooserCalls =
    (a : Asked) (looser : Float) (r s : Result Summary ℕ) (b c d e : Buffers) → Answered a r b c → Answered (with_tol looser a) s d e
    → T (le a.tol looser) → (x z : Summary) → r ≡ Ok x → s ≡ Ok z → z.n_iter ≤ x.n_iter
