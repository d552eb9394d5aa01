-- Demand 3, of two calls of the entry: calls alike but for max_iter and for the buffers agree (`Rattle.calls.proofs.TwoCalls` proves it).
use Rattle.std.specs.Prelude.{◌≡◌, ℕ, ◌≤◌, ◌<◌, length, take, Result, Ok}
use Rattle.fit.specs.Outputs.{Outputs}
use Rattle.search.specs.Reasons.{at_limit}
use Rattle.questions.specs.Questions.{Asked, needs_for, room}
use Rattle.fit.specs.Fit.{places}
use Rattle.fit.specs.Demand3.{with_max_iter}
use Rattle.trend_filter.specs.declared.Summary.{Summary}
use Rattle.calls.specs.Reasons.{reasoned}
use Rattle.trend_filter.specs.Answers.{Buffers, lent, Answered}

-- The first call asks a, answers r, finds b in the buffers and leaves c. The second asks the same with max_iter `other`, answers s, finds d and leaves e.
-- What the buffers held before may differ, and so may their lengths, if questions 8 and 9 have one answer in both calls.
pub record TwoCalls (a : Asked) (other : ℕ) (r s : Result Summary ℕ) (b c d e : Buffers) : Type 0 where
  pub first : Answered a r b c
  pub second : Answered (with_max_iter other a) s d e
  pub same_room : room (length a.y) (needs_for a) (lent d) ≡ room (length a.y) (needs_for a) (lent b)

-- the first places are equal: n of trend and of cycle, count of knots, m of dual
pub record SamePlaces (n count m : ℕ) (c e : Outputs) : Type 0 where
  pub trend : take n e.trend ≡ take n c.trend
  pub cycle : take n e.cycle ≡ take n c.cycle
  pub knots : take count e.knots ≡ take count c.knots
  pub dual : take m e.dual ≡ take m c.dual

-- equal answers, and after a fit equal places of trend, cycle and dual and equal knots
pub record Agree (a : Asked) (r s : Result Summary ℕ) (c e : Buffers) : Type 0 where
  pub answers : s ≡ r
  pub places : (x : Summary) → r ≡ Ok x → SamePlaces (length a.y) x.knots (places a) c.out e.out

-- when two calls agree
pub record Agreement (a : Asked) (other : ℕ) (r s : Result Summary ℕ) (c e : Buffers) : Type 0 where
  -- If the first fits with n_iter below its max_iter, and the second's max_iter is above that n_iter, they agree, in the reason too;
  pub alike : (x : Summary) → r ≡ Ok x → x.n_iter < a.max_iter → x.n_iter < other → Agree a r s c e
  -- if it is that n_iter, and at least 1, they agree in all but the reason: what stalled has then spent its limit.
  pub at_limit : (x : Summary) → r ≡ Ok x → x.n_iter < a.max_iter → 1 ≤ other → x.n_iter ≡ other → Agree a (Ok (reasoned (at_limit x.reason) x)) s c e
  -- If both limits are above 1,447,640, they agree, be it in a fit or in a refusal.
  pub settled : 1447640 < a.max_iter → 1447640 < other → Agree a r s c e

-- of any two such calls
abbrev pub TwoCallsAgree : Type 0
TwoCallsAgree = (a : Asked) (other : ℕ) (r s : Result Summary ℕ) (b c d e : Buffers) → TwoCalls a other r s b c d e → Agreement a other r s c e
