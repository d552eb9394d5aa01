use Rattle.std.proofs.Common.{◌≡◌, ℕ, true, get_or}
use Rattle.stored.specs.Words.{same_to}
use Rattle.stored.proofs.same_words.Given as goal

abbrev pub invariant-loop-i : goal.invariant-loop-i
invariant-loop-i g l = same_to (λ (k : ℕ). g.T.Stored.word_of (get_or l.x k g.T.Stored.beyond)) l.s l.a l.i ≡ true
