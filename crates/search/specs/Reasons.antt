-- Document 02, A11: why a search stopped, as a number, and how a limit that is just n_iter changes it. Definitions only.
use Rattle.std.specs.Prelude.{ℕ}
use Rattle.search.specs.declared.Reason.{Reason}
use Rattle.search.specs.declared.Reason.TheVariants.{ClosedPath, GapSmall, LimitSpent, Stalled, PivotLost}

-- closed path, gap small enough, limit spent, stalled, pivot lost inside the iteration
abbrev pub reason_number : Reason → ℕ
reason_number ClosedPath = 0
reason_number GapSmall = 1
reason_number LimitSpent = 2
reason_number Stalled = 3
reason_number PivotLost = 4

-- the reason where the limit is n_iter and the search has nothing left to do: a limit that is spent is asked before the stall
abbrev pub at_limit : Reason → Reason
at_limit ClosedPath = ClosedPath
at_limit GapSmall = GapSmall
at_limit LimitSpent = LimitSpent
at_limit Stalled = LimitSpent
at_limit PivotLost = PivotLost
