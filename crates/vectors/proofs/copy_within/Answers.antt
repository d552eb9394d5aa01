use Rattle.std.proofs.Common.{◌≡◌, ◌+◌, ◌-◌, arith}
use Rattle.std.specs.Float.{nan}
use Rattle.vectors.specs.Vec.{at}
use Rattle.vectors.specs.Parts.{Written, part_of}
use Rattle.vectors.proofs.Laws.{written_kept}
use Rattle.vectors.proofs.Parts.{store_done}
use Rattle.vectors.proofs.copy_within.Goals as goal

pub returns : goal.returns
unfolding part_of
returns c =
    let a = c.args in
    let e : c.loop-i.i ≡ a.n = omega arith in
    let w : Written a.b (a.b + a.n) (λ j. at a.s.now (a.a + (j - a.b))) a.s.now c.loop-i.s = rw e at c.loop-i.invariant in
    (store_done nan a.b a.n (λ j. at a.s.now (a.a + j)) a.s.now c.loop-i.s w, written_kept w)
