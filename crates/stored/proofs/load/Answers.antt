use Rattle.std.proofs.Common.{◌∙◌, ap, length-take, arith}
use Rattle.std.specs.Float.{binary64}
use Rattle.std.specs.Float.Ieee.{of_bits}
use Rattle.vectors.proofs.Laws.{none, up}
use Rattle.stored.proofs.Same.{loaded_part}
use Rattle.stored.proofs.load.Goals as goal

pub loop-i-init : goal.loop-i-init
loop-i-init c = none

pub loop-i-preserved : goal.loop-i-preserved
loop-i-preserved c = up c.loop-i.invariant (omega arith) (omega arith) (c.double.ensures ∙ ap (of_bits binary64) c.word.ensures)

pub returns : goal.returns
returns c =
    let a = c.args in
    loaded_part a.s.now a.a a.n a.y.now c.loop-i.invariant (omega (arith, length-take a.n a.y.now)) (omega arith)
