use Rattle.std.proofs.Common.{◌<◌, arith, Some}
use Rattle.std.proofs.lemmas.List.{map-set}
use borrow.Author.Tests.{lt-ltb}
use Rattle.framing.specs.Bytes.{number_at}
use Rattle.series.specs.Inner.{slot_of}
use Rattle.series.proofs.correct.Goals as goal

pub returns-then-p-n-clause-slots_after : goal.returns-then-p-n-clause-slots_after
returns-then-p-n-clause-slots_after c =
    let h : number_at c.args.body 2 c.args.s.now < c.args.n = omega (arith, c.number-p.ensures.value) in
    simp (lt-ltb _ _ h, c.number-p.ensures.value) (map-set slot_of c.args.slots.now _ (Some c.args.x))
