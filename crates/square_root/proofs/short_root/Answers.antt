use Rattle.std.proofs.Common.{◌≡◌, arith}
use Rattle.square_root.proofs.Newton.{end}
use Rattle.square_root.proofs.short_root.Goals as goal

pub returns : goal.returns
returns c = let done : c.loop-j.j ≡ 0 = omega arith in
    end c.args.h c.loop-j.root (rw done at c.loop-j.invariant.found)
