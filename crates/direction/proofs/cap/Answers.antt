use Rattle.std.proofs.Common.{refl, ◌∙◌, arith}
use Rattle.direction.specs.Direction.{step_cap_to}
use Rattle.direction.proofs.Laws.{cap_more, one_number}
use Rattle.direction.proofs.cap.Goals as goal

pub edge_of-requires : goal.edge_of-requires
edge_of-requires c = one_number

pub loop-i-init : goal.loop-i-init
unfolding step_cap_to
loop-i-init c = (refl, one_number, c.edge_of.ensures)

pub loop-i-preserved : goal.loop-i-preserved
loop-i-preserved c = (
  c.capped-c.ensures.0 ∙ cap_more c.args.b c.args.m c.args.s.now c.loop-i.i c.loop-i.c.step c.capped-x.result.step (omega arith) c.loop-i.invariant.0 c.capped-x.ensures.0,
  c.capped-c.ensures.1,
  c.capped-c.ensures.2,
)
