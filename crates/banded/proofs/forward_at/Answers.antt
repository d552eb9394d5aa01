use Rattle.std.proofs.Common.{◌≡◌, ◌+◌, ◌-◌, sym, arith}
use Rattle.banded.specs.Solve.{forward_at}
use Rattle.banded.proofs.Laws.{less_from_none, less_from-more}
use Rattle.banded.proofs.forward_at.Goals as goal

pub loop-t-init : goal.loop-t-init
loop-t-init c = sym (less_from_none _ _ _ _ (omega arith))

pub loop-t-preserved : goal.loop-t-preserved
loop-t-preserved c =
    let k = c.args.k in
    let i = c.args.i in
    let t = c.loop-t.t in
    let x : i + t - k + k - i ≡ t = omega arith in
    less_from-more _ _ (i - k) (i + t - k) c.loop-t.invariant (rw x (cc)) (omega arith) (omega arith)

pub returns : goal.returns
unfolding forward_at
returns c =
    let e : c.args.i + c.loop-t.t - c.args.k ≡ c.args.i = omega arith in
    rw e at c.loop-t.invariant
