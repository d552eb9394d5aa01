use Rattle.std.proofs.Common.{arith}
use Rattle.elimination.proofs.Elimination.{factoring_none, factoring_more, factoring_bad, factoring_done}
use Rattle.elimination.proofs.factor.Goals as goal

pub loop-r-init : goal.loop-r-init
loop-r-init c = factoring_none _ _ _

pub returns-then-not-eliminate : goal.returns-then-not-eliminate
returns-then-not-eliminate c = factoring_bad c.loop-r.invariant c.eliminate.ensures c.loop-r-test.true c.if-not-eliminate.true

pub loop-r-preserved : goal.loop-r-preserved
loop-r-preserved c = factoring_more c.loop-r.invariant c.eliminate.ensures c.loop-r-test.true c.if-not-eliminate.false

pub returns : goal.returns
returns c = factoring_done c.loop-r.invariant (omega arith)
