use Rattle.newton_system.specs.Rows.{data_of}
use Rattle.line_search.specs.Places.{Squares}
use Rattle.line_search.proofs.squares.Given as goal

abbrev pub invariant-loop-i : goal.invariant-loop-i
invariant-loop-i l = Squares (data_of l.k l.g l.dy l.lam l.inv_t) l.m l.from l.i l.initial.s l.s
