use Rattle.certify.proofs.Laws.{beside, certified_inside}
use Rattle.certify.proofs.certify_inside.Goals as goal

pub passes-t-requires : goal.passes-t-requires
passes-t-requires c = beside c.requires.0

pub returns : goal.returns
returns c = certified_inside c.requires.0 c.passes-t.ensures c.args.lam c.args.dual.now _ c.requires.1 c.primal_of.ensures c.requires.2 c.copy.ensures
