use Rattle.newton_system.specs.Rows.{data_of}
use Rattle.line_search.proofs.Lines.{Searching}
use Rattle.line_search.proofs.line_search.Given as goal

abbrev pub invariant-loop : goal.invariant-loop
invariant-loop l = Searching (data_of l.k l.g l.dy l.lam l.inv_t) l.m l.b l.cap l.old l.initial.s l.s l.step l.inside l.counter
