use Rattle.std.proofs.Common.{◌≡◌, sym, length, arith}
use Rattle.float64.specs.Ops.{◌⊖◌}
use Rattle.vectors.specs.Vec.{at}
use Rattle.vectors.specs.Parts.{Written}
use Rattle.vectors.proofs.Laws.{written-put}
use Rattle.certificate.specs.Certificate.{minus}
use Rattle.certificate.proofs.Laws.{length-minus, at-minus}
use Rattle.decomposition.proofs.minus_into.Goals as goal

pub returns : goal.returns
returns c =
    let y = c.args.y.now in
    let x = c.args.x.now in
    let e : c.loop-i.i ≡ length y = omega arith in
    let w : Written 0 (length y) (λ j. at y j ⊖ at x j) c.args.c.now c.loop-i.c = rw e at c.loop-i.invariant in
    written-put (minus y x) w (length-minus y x) (omega arith) (λ i h. sym (at-minus y x i h))
