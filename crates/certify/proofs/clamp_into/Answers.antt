use Rattle.std.proofs.Common.{◌≡◌, sym, length, arith}
use Rattle.float64.specs.Helpers.{clamp_of}
use Rattle.vectors.specs.Vec.{at}
use Rattle.vectors.specs.Parts.{Written}
use Rattle.vectors.proofs.Laws.{written-put}
use Rattle.certificate.specs.Certificate.{clamped}
use Rattle.certificate.proofs.Laws.{length-clamped, at-clamped}
use Rattle.certify.proofs.clamp_into.Goals as goal

pub returns : goal.returns
returns c =
    let z = c.args.z.now in
    let lam = c.args.lam in
    let e : c.loop-i.i ≡ length z = omega arith in
    let w : Written 0 (length z) (λ j. clamp_of (at z j) lam) c.args.dual.now c.loop-i.dual = rw e at c.loop-i.invariant in
    written-put (clamped lam z) w (length-clamped lam z) (omega arith) (λ i h. sym (at-clamped lam z i h))
