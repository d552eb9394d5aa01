use Rattle.std.proofs.Common.{◌≡◌, refl, length, arith}
use Rattle.vectors.specs.Vec.{at}
use Rattle.vectors.specs.Parts.{Written}
use Rattle.vectors.proofs.Laws.{written-put}
use Rattle.vectors.proofs.copy.Goals as goal

pub returns : goal.returns
returns c =
    let x = c.args.x.now in
    let e : c.loop-i.i ≡ length x = omega arith in
    let w : Written 0 (length x) (λ j. at x j) c.args.t.now c.loop-i.t = rw e at c.loop-i.invariant in
    written-put x w refl (omega arith) (λ i h. refl)
