use Rattle.series.proofs.Closing.{Closed}
use Rattle.series.proofs.close_up.Given as goal

abbrev pub invariant-loop-i : goal.invariant-loop-i
invariant-loop-i l = Closed l.slots l.i l.initial.y l.y l.initial.positions l.positions l.n
