use native.Mathlib.Omega.{arith}
use Rattle.active_set.proofs.Laws.{hold_place}
use Rattle.active_set.proofs.hold_at.Goals as goal

pub returns-then-lam-z : goal.returns-then-lam-z
returns-then-lam-z c = let a = c.args in
    rw (hold_place a.lam a.a a.m a.s.now a.i (omega arith), c.if-lam-z.true)

pub returns-then-lam-z-2 : goal.returns-then-lam-z-2
returns-then-lam-z-2 c = let a = c.args in
    rw (hold_place a.lam a.a a.m a.s.now a.i (omega arith), c.if-lam-z.false, c.if-lam-z-2.true)

pub returns-else-lam-z-2 : goal.returns-else-lam-z-2
returns-else-lam-z-2 c = let a = c.args in
    rw (hold_place a.lam a.a a.m a.s.now a.i (omega arith), c.if-lam-z.false, c.if-lam-z-2.false)
