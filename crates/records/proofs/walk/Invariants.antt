use Rattle.std.proofs.Common.{◌-◌, length}
use Rattle.records.proofs.Passing.{Counted}
use Rattle.records.proofs.walk.Given as goal

abbrev pub invariant-loop-r : goal.invariant-loop-r
invariant-loop-r l = Counted l.s l.at l.settings

abbrev pub decreases-loop-r : goal.decreases-loop-r
decreases-loop-r l = length l.s - l.at
