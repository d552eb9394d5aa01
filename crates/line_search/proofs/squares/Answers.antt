use Rattle.std.proofs.Common.{arith}
use Rattle.line_search.proofs.Residuals.{squares_more}
use Rattle.line_search.proofs.squares.Goals as goal

pub loop-i-preserved : goal.loop-i-preserved
loop-i-preserved c =
    let a = c.args in
    let w = c.loop-i.invariant in
    squares_more a.k a.g a.dy.now a.lam a.inv_t a.m a.from c.loop-i.i a.s.now c.loop-i.s c.product_at-q.result c.residual_of.result w
    (omega arith) (omega arith) (omega (arith, w.each.size)) c.product_at-q.ensures c.residual_of.ensures
