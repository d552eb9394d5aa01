use Rattle.std.proofs.Common.{rules}
use Rattle.direction.proofs.Edges.{uncapped}
use Rattle.direction.proofs.capped.Goals as goal

pub returns-then-c-dmu : goal.returns-then-c-dmu
returns-then-c-dmu c = (uncapped c.args.c.step c.args.c.edge c.args.mu c.args.dmu (search rules) (search rules) c.requires.0 c.requires.1 c.if-c-dmu.true, c.requires.0, c.requires.1)
