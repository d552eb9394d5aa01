use Rattle.std.proofs.Common.{sym, ◌∙◌, arith}
use Rattle.newton_system.specs.Rows.{data_of}
use Rattle.line_search.proofs.Lines.{trial-inside, trial-outside}
use Rattle.line_search.proofs.attempt.Goals as goal

pub returns-then-not-inside : goal.returns-then-not-inside
returns-then-not-inside c =
    let a = c.args in
    let w = c.move_part.ensures in
    trial-outside (data_of a.k a.g a.dy.now a.lam a.inv_t) a.m a.b a.step a.old a.s.now c.move_part.new.s w (omega (arith, w.size))
    (sym c.if-not-inside.true ∙ c.inside.ensures)

pub returns : goal.returns
returns c =
    let a = c.args in
    let w = c.move_part.ensures in
    trial-inside (data_of a.k a.g a.dy.now a.lam a.inv_t) a.m a.b a.step a.old a.s.now c.move_part.new.s w (omega (arith, w.size))
    (sym c.if-not-inside.false ∙ c.inside.ensures)
    (omega arith) c.move_part-2.ensures c.low_enough.ensures.0 c.low_enough.ensures.1
