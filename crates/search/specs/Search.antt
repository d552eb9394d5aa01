-- Document 01, "Interior point": how the counts of the search run, for any state and any step. Definitions only.
use Rattle.std.specs.Prelude.{ℕ, zero, suc, Bool, true, false, cond, eqb, Float}
use Rattle.std.specs.Float.Ieee.{lt, le}
use Rattle.float64.specs.Ops.{◌⊖◌, ◌⊗◌, c0·99}
use Rattle.search.specs.declared.Reason.{Reason}
use Rattle.search.specs.declared.Reason.TheVariants.{GapSmall, LimitSpent, Stalled, PivotLost}

-- what an iteration does to the state: a bad pivot loses it
pub data Turn (S : Type 0) : Type 0 where
  lost : Turn S
  moved : S → Turn S

-- a problem: the two objectives P and G at a state, and one iteration from a state and its gap
pub record Problem (S : Type 0) : Type 0 where
  pub primal : S → Float
  pub dual : S → Float
  pub move : Float → S → Turn S

-- P - G
abbrev pub gap_between : Float → Float → Float
gap_between p g = p ⊖ g

-- the gap at a state
abbrev pub gap : {S : Type 0} → Problem S → S → Float
gap L s = gap_between (L.primal s) (L.dual s)

-- where the search stands before an iteration: its first gap, its best gap and its counts
pub record Point (S : Type 0) : Type 0 where
  pub state : S
  pub n_iter : ℕ
  pub first : Float
  pub best : Float
  pub improvements : ℕ
  pub stall : ℕ

-- where it ended, and why
pub record Ended (S : Type 0) : Type 0 where
  pub state : S
  pub n_iter : ℕ
  pub first : Float
  pub best : Float
  pub improvements : ℕ
  pub reason : Reason

-- at the start the best gap is the first gap, and nothing is counted
abbrev pub start_at : {S : Type 0} → Problem S → S → Point S
start_at L s = record { state = s; n_iter = 0; first = gap L s; best = gap L s; improvements = 0; stall = 0 }

-- the search ends at p
abbrev pub ended : {S : Type 0} → Point S → Reason → Ended S
ended p r = record { state = p.state; n_iter = p.n_iter; first = p.first; best = p.best; improvements = p.improvements; reason = r }

-- gap ≤ tol·P
abbrev pub enough : {S : Type 0} → Problem S → Float → Point S → Bool
enough L tol p = le (gap L p.state) (tol ⊗ L.primal p.state)

-- the stall count is 10
abbrev pub stuck : {S : Type 0} → Point S → Bool
stuck p = eqb p.stall 10

-- the gap at the new state t is below 0.99 of the best gap, the product rounded
abbrev pub improved : {S : Type 0} → Problem S → Point S → S → Bool
improved L p t = lt (gap L t) (c0·99 ⊗ p.best)

-- an improvement's gap becomes the best and ends the stall; else the stall count rises
abbrev pub advance : {S : Type 0} → Problem S → Point S → S → Bool → Point S
advance L p t true = record { state = t; n_iter = suc p.n_iter; first = p.first; best = gap L t; improvements = suc p.improvements; stall = 0 }
advance L p t false = record { state = t; n_iter = suc p.n_iter; first = p.first; best = p.best; improvements = p.improvements; stall = suc p.stall }

-- after an iteration: the search ended, or it goes on
pub data Next (S : Type 0) : Type 0 where
  stop : Ended S → Next S
  go : Point S → Next S

-- an iteration: it counts also where a bad pivot ends it
abbrev pub turned : {S : Type 0} → Problem S → Point S → Turn S → Next S
turned L p lost = stop (record { state = p.state; n_iter = suc p.n_iter; first = p.first; best = p.best; improvements = p.improvements; reason = PivotLost })
turned L p (moved t) = go (advance L p t (improved L p t))

-- before each iteration that max_iter allows: is the gap small enough, and else, is the stall count 10
unfoldable pub iterate : {S : Type 0} → Problem S → Float → Point S → Next S
iterate L tol p = cond (enough L tol p) (stop (ended p GapSmall)) (cond (stuck p) (stop (ended p Stalled)) (turned L p (L.move (gap L p.state) p.state)))

-- r is how many iterations max_iter still allows
unfoldable pub run : {S : Type 0} → Problem S → Float → ℕ → Point S → Ended S
run L tol zero p = ended p (cond (enough L tol p) GapSmall LimitSpent)
run L tol (suc r) p = elim (iterate L tol p) [ stop e ↦ e | go q ↦ run L tol r q ]

-- the whole search from the state s
abbrev pub searched : {S : Type 0} → Problem S → Float → ℕ → S → Ended S
searched L tol max_iter s = run L tol max_iter (start_at L s)
