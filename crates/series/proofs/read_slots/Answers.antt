use Rattle.std.proofs.Common.{◌≡◌, None, arith}
use Rattle.std.proofs.lemmas.List.{length-map}
use Rattle.records.proofs.Entries.{kind_inside}
use Rattle.series.specs.Inner.{slot_of}
use Rattle.series.proofs.Gathering.{slotted_none, slotted_more, slotted_all, slotted_bad, slotted_room}
use Rattle.series.proofs.read_slots.Goals as goal

pub loop-r-init : goal.loop-r-init
loop-r-init c = slotted_none _ _

pub said-x-requires : goal.said-x-requires
said-x-requires c = kind_inside c.in-Ok-Some.r.kind (rw c.in-Ok-Some.field-0-is at c.in-Ok-Some.ensures)

pub put_record-named-requires : goal.put_record-named-requires
put_record-named-requires c =
    let f = rw c.in-Ok-Some.field-0-is at c.in-Ok-Some.ensures in
    (kind_inside c.in-Ok-Some.r.kind f, omega (arith, slotted_room c.loop-r.invariant f c.requires))

pub loop-r-preserved : goal.loop-r-preserved
loop-r-preserved c =
    let w = c.loop-r.invariant in
    let f = rw c.in-Ok-Some.field-0-is at c.in-Ok-Some.ensures in
    rw c.is_nan.ensures.value
    (slotted_more w f (omega (arith, slotted_room w f c.requires, length-map c.loop-r.slots slot_of)) c.said-x.ensures c.put_record-named.ensures.slots_after c.put_record-named.ensures.value c.slots_of-n.ensures)

pub returns-in_default : goal.returns-in_default
returns-in_default c =
    let e : c.in_default.field-0 ≡ None = cc in
    slotted_all c.loop-r.invariant c.requires (rw (c.in_default.is, e) at c.record_at.ensures)

pub returns-in_default-2 : goal.returns-in_default-2
returns-in_default-2 c = slotted_bad c.loop-r.invariant (rw c.in_default.is at c.record_at.ensures)
