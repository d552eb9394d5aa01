use Rattle.std.proofs.Common.{arith}
use Rattle.newton_system.specs.Rows.{data_of}
use Rattle.line_search.proofs.Residuals.{squares_then}
use Rattle.line_search.proofs.squares_into.Goals as goal

pub returns : goal.returns
returns c =
    let d = data_of c.args.k c.args.g c.args.dy.now c.args.lam c.args.inv_t in
    squares_then d (squares_then d c.squares-2.ensures c.squares-3.ensures (omega arith) (omega arith)) c.squares-4.ensures (omega arith) (omega arith)
