use Rattle.std.proofs.Common.{◌≤◌}
use Rattle.replay.proofs.replayed.Given as goal

abbrev pub invariant-loop-i : goal.invariant-loop-i
invariant-loop-i l = l.equal ≤ l.i
