use Rattle.std.proofs.Common.{◌+◌}
use Rattle.vectors.specs.Parts.{Written}
use Rattle.line_search.specs.Places.{moved}
use Rattle.line_search.proofs.move_part.Given as goal

abbrev pub invariant-loop-i : goal.invariant-loop-i
invariant-loop-i l = Written (l.c + l.from) (l.c + l.i) (moved l.b l.c l.step l.initial.s) l.initial.s l.s
