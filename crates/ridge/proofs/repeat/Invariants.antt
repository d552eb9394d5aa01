use Rattle.std.proofs.Common.{◌+◌}
use Rattle.ridge.specs.Layout.{Repeated}
use Rattle.ridge.proofs.repeat.Given as goal

abbrev pub invariant-loop-i : goal.invariant-loop-i
invariant-loop-i l = Repeated (l.k + 1) l.b l.i l.initial.s l.s
