use Rattle.std.proofs.Common.{arith, ◌≡◌, ◌-◌, get_or}
use lib.Ieee.{nan}
use Rattle.vectors.proofs.Laws.{written_kept}
use Rattle.vectors.proofs.Parts.{store_done}
use Rattle.active_set.specs.ActiveSet.{compressed_rhs_at}
use Rattle.active_set.specs.Marks.{held_by}
use Rattle.active_set.proofs.system.fill_right.Goals as goal

pub returns : goal.returns
returns c = let a = c.args in
    let e : c.loop-p.p ≡ a.q = omega arith in
    let w = rw e at c.loop-p.invariant in
    (store_done nan a.b a.q (λ r. compressed_rhs_at a.k a.g a.dy.now a.lam (held_by a.n a.marks.now) (a.n - a.k) (get_or a.marks.now r 0)) a.s.now c.loop-p.s w, written_kept w)
