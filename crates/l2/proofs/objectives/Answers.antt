use Rattle.std.proofs.Common.{◌-◌, ◌∙◌, ap, length, arith}
use Rattle.vectors.proofs.Parts.{range_part}
use Rattle.vectors.proofs.Texts.{put_start}
use Rattle.differences.specs.Diff.{diff_k}
use Rattle.l2.specs.L2.{scaled, gap_l2, dual_l2}
use Rattle.l2.proofs.Scaled.{length-scaled}
use Rattle.l2.proofs.objectives.Goals as goal

pub returns-then-not-lam : goal.returns-then-not-lam
unfolding gap_l2
returns-then-not-lam c = record { objective = c.objective-p.ensures; gap = rw c.if-not-lam.true; dual = c.scale_diff.ensures }

pub returns : goal.returns
unfolding gap_l2
returns c =
    let a = c.args in
    let m = length a.y.now - a.k in
    let w = c.scale_diff.ensures in
    let l = length-scaled a.lam a.k a.x.now in
    let p = put_start m a.dual.now (scaled a.lam (diff_k a.k a.x.now)) c.scale_diff.new.v w (omega (arith, l, c.requires.1)) c.requires.2 in
    let h = range_part 0 m m c.scale_diff.new.v (omega arith) (omega (arith, c.requires.2, p.1.size)) in
    let d = c.dual_l2-d.ensures ∙ ap (dual_l2 a.k a.y.now a.lam) (h ∙ p.0) in
    record { objective = c.objective-p.ensures; gap = rw (c.if-not-lam.false, d, c.objective-p.ensures); dual = w }
