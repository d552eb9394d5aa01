use Rattle.std.proofs.Common.{arith}
use Rattle.dual_point.specs.Lanes.{candidate_trend, candidate_lane}
use Rattle.vectors.proofs.Parts.{range_part}
use Rattle.polish.proofs.winner.Goals as goal

pub returns-then-second : goal.returns-then-second
returns-then-second c = let a = c.args in
    rw (c.if-second.true, range_part (candidate_trend a.n) (candidate_lane a.n) a.n a.work.now (omega arith) (omega arith))

pub returns-else-second : goal.returns-else-second
returns-else-second c = let a = c.args in
    rw (c.if-second.false, range_part 0 a.n a.n a.work.now (omega arith) (omega arith))
