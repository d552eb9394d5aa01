use Rattle.vectors.specs.Vec.{places_to}
use Rattle.vectors.specs.Parts.{Wrote}
use Rattle.crossings.specs.Crossings.{crosses_at}
use Rattle.crossings.proofs.list_crossings.Given as goal

abbrev pub invariant-loop-i : goal.invariant-loop-i
invariant-loop-i l = Wrote l.initial.list 0 (places_to (crosses_at l.level l.trend) l.i) l.list l.n
