use Rattle.std.proofs.Common.{◌≡◌, ◌+◌, ◌-◌, ◌*◌, arith}
use Rattle.substitution.proofs.Laws.{solved_bad, solved-good}
use Rattle.substitution.proofs.factor_solve_at.Goals as goal

pub returns-then-not-factor : goal.returns-then-not-factor
returns-then-not-factor c =
    let a = c.args in
    let n = a.m * (a.k + 1) + a.m in
    let d : a.p + n - a.p ≡ n = omega arith in
    rw d (solved_bad a.p a.s.now c.requires.1 (rw d at c.factor.ensures) c.if-not-factor.true)

pub returns : goal.returns
returns c =
    let a = c.args in
    let n = a.m * (a.k + 1) + a.m in
    let d : a.p + n - a.p ≡ n = omega arith in
    rw d (solved-good a.p a.s.now c.requires.1 (rw d at c.factor.ensures) c.if-not-factor.false (rw d at c.solve.ensures))
