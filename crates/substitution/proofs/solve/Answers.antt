use Rattle.substitution.proofs.Laws.{carried_then, substituted}
use Rattle.substitution.proofs.solve.Goals as goal

pub returns : goal.returns
returns c = substituted (carried_then c.back_any.ensures c.back_rest.ensures)
