use Rattle.banded.specs.Layout.{Laid}
use Rattle.active_set.specs.ActiveSet.{compressed}
use Rattle.active_set.proofs.system.fill_bands.Given as goal

abbrev pub invariant-loop-p : goal.invariant-loop-p
invariant-loop-p l = Laid l.k l.p (compressed l.k l.g l.free) l.initial.s l.s
