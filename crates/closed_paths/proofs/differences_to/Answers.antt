use Rattle.std.proofs.Common.{arith, ap, ◌∙◌, ◌+◌, ◌-◌, ◌*◌, ◌≤◌, length}
use Rattle.vectors.specs.Vec.{put}
use Rattle.vectors.proofs.Texts.{put_start}
use Rattle.vectors.proofs.Parts.{first_part, range_part}
use Rattle.differences.specs.Diff.{diff_k}
use Rattle.differences.proofs.Laws.{length-diff_k}
use Rattle.closed_paths.proofs.Areas.{kept_wide}
use Rattle.closed_paths.proofs.differences_to.Goals as goal

pub returns : goal.returns
returns c =
    let a = c.args in
    let y = a.y.now in
    let n = length y in
    let m = n - a.k in
    let c₀ = a.cycle.now in
    let w = a.work.now in
    let p = c.requires in
    let room = p.room.work in
    let cycle = p.cycle in
    let fits : 4 * n + m ≤ length w = omega arith in
    let put-at = c.copy.ensures ∙ ap (put c₀ 0) (range_part (4 * n) (4 * n + m) m w (omega arith) fits ∙ p.differences) in
    let h = put_start m c₀ (diff_k a.k y) _ put-at (length-diff_k a.k y) (omega arith) in
    record { known = first_part m _ (omega (arith, h.1.size)) ∙ h.0; kept = kept_wide 0 n h.1 (omega arith) (omega arith) }
