use Rattle.std.proofs.Common.{Some, None, sym, ◌∙◌}
use Rattle.std.proofs.lemmas.List.{map-set}
use Rattle.series.specs.Inner.{slot_of}
use Rattle.series.proofs.Gathering.{sounds_once}
use Rattle.series.proofs.put_record.Goals as goal

pub returns-in-Hour-clause-slots_after : goal.returns-in-Hour-clause-slots_after
returns-in-Hour-clause-slots_after c = map-set slot_of c.args.slots.now c.args.n (Some c.args.x) ∙ sym (sounds_once c.args.s.now c.args.r.kind c.args.r.body c.args.x c.args.n _ c.in-Hour.is)

pub returns-in-Silence-clause-slots_after : goal.returns-in-Silence-clause-slots_after
returns-in-Silence-clause-slots_after c = rw c.in-Silence.is (map-set slot_of c.args.slots.now c.args.n None)
