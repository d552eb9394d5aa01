use Rattle.direction.proofs.Edges.{edge_top}
use Rattle.direction.proofs.edge_of.Goals as goal

pub returns-else-step-e : goal.returns-else-step-e
returns-else-step-e c = edge_top _ c.requires
