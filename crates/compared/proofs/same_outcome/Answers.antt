use Rattle.std.proofs.Common.{arith}
use Rattle.compared.proofs.Told.{told_room, told_compares}
use Rattle.compared.proofs.same_outcome.Goals as goal

pub same_answer-requires-clause-room : goal.same_answer-requires-clause-room
same_answer-requires-clause-room c = told_room c.saturating_sub-m.ensures _ c.l1_trend_filter-r.ensures (omega arith)

pub returns : goal.returns
returns c = told_compares c.saturating_sub-m.ensures c.same_answer.ensures c.l1_trend_filter-r.ensures
