use Rattle.std.proofs.Common.{arith, ◌∙◌, ◌+◌}
use Rattle.framing.proofs.Numbers.{one_is}
use Rattle.records.proofs.Entries.{settings_are}
use Rattle.records.proofs.settings_at.Goals as goal

pub returns : goal.returns
returns c =
    let s = c.args.s.now in
    settings_are s c.args.body c.double.ensures c.number.ensures.value c.double-2.ensures c.number-2.ensures.value c.number-3.ensures.value
    (c.from.ensures ∙ one_is s (c.args.body + 24) (omega arith)) (c.from-2.ensures ∙ one_is s (c.args.body + 25) (omega arith))
