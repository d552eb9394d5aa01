use Rattle.std.proofs.Common.{◌≡◌, ◌≤◌, ◌-◌, ◌+◌, ◌*◌, length, arith}
use Rattle.vectors.proofs.Parts.{part-size}
use Rattle.l2.proofs.System.{l2_solved}
use Rattle.l2.proofs.solve_l2.Goals as goal

pub returns : goal.returns
returns c =
    let a = c.args in
    let n = length a.y.now in
    let b = n * (a.k + 1) in
    let s = c.fill_ridge.new.s in
    let e : b + n - b ≡ n = omega arith in
    let size = c.fill_ridge.ensures.kept.size in
    let room : b + n ≤ length s = omega (arith, c.requires.1) in
    let l = part-size b n s c.copy.new.t room (rw e at c.copy.auto.t) in
    l2_solved a.k a.lam a.y.now s c.copy.new.t room l (rw e at c.copy.ensures) c.fill_ridge.ensures (rw e at c.factor_solve_at.ensures)
