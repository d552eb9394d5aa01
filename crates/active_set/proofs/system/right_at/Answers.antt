use Rattle.std.proofs.Common.{arith, ◌≡◌, ◌∙◌}
use native.Mathlib.Nat.{sub_self}
use Rattle.active_set.specs.ActiveSet.{less_to, compressed_rhs_at}
use Rattle.active_set.proofs.Laws.{less-more}
use Rattle.active_set.proofs.system.right_at.Goals as goal

pub loop-j-init : goal.loop-j-init
unfolding less_to
loop-j-init c = rw sub_self

pub loop-j-preserved : goal.loop-j-preserved
loop-j-preserved c = less-more _ _ _ _ _ _ _ _ _ c.loop-j.invariant (omega arith) (c.less_held-v.ensures ∙ rw c.into.ensures)

pub returns : goal.returns
unfolding compressed_rhs_at
returns c =
    let e : c.loop-j.j ≡ c.min-j-end.result = omega arith in
    rw (e ∙ c.min-j-end.ensures, c.saturating_sub-j.ensures) at c.loop-j.invariant
