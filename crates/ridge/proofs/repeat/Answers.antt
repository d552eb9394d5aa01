use Rattle.std.proofs.Common.{arith}
use Rattle.ridge.proofs.Alike.{repeat_none, repeat-more}
use Rattle.ridge.proofs.repeat.Goals as goal

pub loop-i-init : goal.loop-i-init
loop-i-init c = repeat_none _ _ _

pub loop-i-preserved : goal.loop-i-preserved
loop-i-preserved c = repeat-more c.loop-i.invariant (omega arith) (omega arith) (omega arith)
