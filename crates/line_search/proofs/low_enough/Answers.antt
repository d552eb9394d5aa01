use Rattle.std.proofs.Common.{arith}
use Rattle.newton_system.specs.Newton.{residual_norm}
use Rattle.newton_system.specs.Rows.{data_of}
use Rattle.line_search.proofs.Residuals.{squares_kept, squares_sum}
use Rattle.line_search.proofs.low_enough.Goals as goal

pub returns : goal.returns
unfolding residual_norm
returns c =
    let a = c.args in
    let d = data_of a.k a.g a.dy.now a.lam a.inv_t in
    let w = c.squares_into.ensures in
    (simp (c.sqrt.ensures, squares_sum d w (omega (arith, w.each.size)) c.sum-a.ensures), squares_kept d w)
