use Rattle.std.proofs.Common.{◌≡◌, ◌+◌, ◌-◌, min, sym, arith}
use native.Mathlib.Nat.{add-sub_cancel_left}
use Rattle.banded.specs.Solve.{back_at}
use Rattle.banded.proofs.Laws.{less_from_none, less_from-more}
use Rattle.substitution.proofs.back_at.Goals as goal

pub loop-t-init : goal.loop-t-init
loop-t-init c = rw (c.get-d.ensures, add-sub_cancel_left c.args.i c.args.k) (sym (less_from_none _ _ _ _ (omega arith)))

pub loop-t-preserved : goal.loop-t-preserved
loop-t-preserved c =
    let i = c.args.i in
    let t = c.loop-t.t in
    let e : i + c.args.k - (i + 1 + t) ≡ c.args.k - (t + 1) = omega arith in
    less_from-more _ _ (i + 1) (i + 1 + t) c.loop-t.invariant (rw (c.get-a.ensures, e)) (omega arith) (omega arith)

pub returns : goal.returns
unfolding back_at
returns c =
    let e : c.args.i + 1 + c.loop-t.t ≡ min (c.args.i + c.args.k + 1) c.args.m = omega arith in
    rw e at c.loop-t.invariant
