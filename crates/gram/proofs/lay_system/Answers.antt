use Rattle.std.proofs.Common.{◌-◌, ◌≤◌, length, arith}
use Rattle.std.proofs.Math.Nat.{add-sub_cancel_left}
use Rattle.vectors.proofs.Parts.{part-size}
use Rattle.gram.specs.Prepared.{diff_lane, preparation}
use Rattle.gram.proofs.System.{system_laid}
use Rattle.gram.proofs.lay_system.Goals as goal

pub returns : goal.returns
returns c = let k = c.args.k in
    let y = c.args.y.now in
    let n = length y in
    let m = n - k in
    let s = c.fill_gram.new.s in
    let x = c.diff_k.new.d in
    let size = c.fill_gram.ensures.kept.size in
    let room : preparation n ≤ length s = omega (arith, c.requires.1) in
    let l = part-size (diff_lane n) m s x (omega arith) (simp add-sub_cancel_left at c.diff_k.auto.d) in
    let w = simp add-sub_cancel_left at c.copy_within.ensures in
    system_laid k y s x c.requires.0 room l (simp add-sub_cancel_left at c.diff_k.ensures) (rw c.gram_offsets-g.ensures at c.fill_gram.ensures) w.0 w.1
