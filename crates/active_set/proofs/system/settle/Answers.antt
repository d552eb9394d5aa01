use Rattle.active_set.proofs.Settling.{settled_none, settled_all}
use Rattle.active_set.proofs.system.settle.Goals as goal

pub returns-then-q-eq0 : goal.returns-then-q-eq0
returns-then-q-eq0 c = settled_none _ _ _ _ _ _ _ c.if-q-eq0.true

pub returns : goal.returns
returns c = let a = c.args in
    settled_all a.k a.q a.n c.gram_offsets-g.result a.dy.now a.lam a.marks.now a.s.now c.fill_bands.new.s c.fill_right.new.s c.factor_solve_at.new.s
    c.factor_solve_at.result c.gram_offsets-g.ensures c.fill_bands.ensures c.fill_right.ensures.0 c.fill_right.ensures.1 c.factor_solve_at.ensures
