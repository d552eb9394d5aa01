use Rattle.std.proofs.Common.{arith, sym, ◌∙◌}
use borrow.Author.Tests.{not-true, not-false}
use Rattle.std.proofs.lemmas.Grind.{common_steps}
use Rattle.records.proofs.Asking.{walked, broken, week_long, week_broken, week-other, week-settings, week-unnamed, week-named}
use Rattle.series.specs.declared.Refusal.TheVariants.{NoRecords, WrongSettings, NoEarlierHour}
use Rattle.series.proofs.Taking.{held, refuses_as, refused, left_out, taken}
use Rattle.series.proofs.read_week.Goals as goal

pub returns-then-s-gt4096 : goal.returns-then-s-gt4096
returns-then-s-gt4096 c = refuses_as _ NoRecords (week_long _ c.if-s-gt4096.true)

pub returns-in_err-count : goal.returns-in_err-count
returns-in_err-count c = refused _ NoRecords _ c.from_residual.ensures.0 c.from_residual.ensures.1 (week_broken _ c.if-s-gt4096.false (broken _ (sym c.in_err-count.was ∙ c.walk.ensures)))

pub returns-in_err-settings : goal.returns-in_err-settings
returns-in_err-settings c =
    let f = walked _ (sym c.in_ok-count.was ∙ c.walk.ensures) in
    let o = left_out c.first_record.result WrongSettings c.ok_or.ensures.value c.in_err-settings.was in
    refused _ WrongSettings _ c.from_residual-in_err-settings.ensures.0 (rw o.1 at c.from_residual-in_err-settings.ensures.1) (week-other _ c.if-s-gt4096.false f.splits (sym o.0 ∙ c.first_record.ensures _ f.splits))

pub returns-then-count-ne1 : goal.returns-then-count-ne1
returns-then-count-ne1 c =
    let f = walked _ (sym c.in_ok-count.was ∙ c.walk.ensures) in
    let o = taken c.first_record.result c.ok_or.ensures.ok_part c.in_ok-settings.was in
    refuses_as _ WrongSettings (week-settings _ c.if-s-gt4096.false f.splits (sym o ∙ c.first_record.ensures _ f.splits) (λ z. c.if-count-ne1.true (f.settings ∙ z)))

pub returns-then-not-week : goal.returns-then-not-week
returns-then-not-week c =
    let f = walked _ (sym c.in_ok-count.was ∙ c.walk.ensures) in
    let o = taken c.first_record.result c.ok_or.ensures.ok_part c.in_ok-settings.was in
    let w = held _ (c.read_slots-week.ensures _ f.splits) in
    refuses_as _ NoEarlierHour (week-unnamed _ c.if-s-gt4096.false f.splits (sym o ∙ c.first_record.ensures _ f.splits) (sym f.settings ∙ c.if-count-ne1.false) (sym w.names ∙ not-true _ c.if-not-week.true))

pub slice_bounds-slots-end : goal.slice_bounds-slots-end
slice_bounds-slots-end c = grind (arith, common_steps, (c.read_slots-week.ensures _ (walked _ (sym c.in_ok-count.was ∙ c.walk.ensures)).splits).few)

pub slice_bounds-take_hours-end : goal.slice_bounds-take_hours-end
slice_bounds-take_hours-end c = grind (arith, common_steps, (c.read_slots-week.ensures _ (walked _ (sym c.in_ok-count.was ∙ c.walk.ensures)).splits).few)

pub returns : goal.returns
returns c =
    let f = walked _ (sym c.in_ok-count.was ∙ c.walk.ensures) in
    let o = taken c.first_record.result c.ok_or.ensures.ok_part c.in_ok-settings.was in
    let w = held _ (c.read_slots-week.ensures _ f.splits) in
    let k = week-named _ c.if-s-gt4096.false f.splits (sym o ∙ c.first_record.ensures _ f.splits) (sym f.settings ∙ c.if-count-ne1.false) (sym w.names ∙ not-false _ c.if-not-week.false) in
    rw (k, sym w.week, sym w.rates) c.take_hours.ensures
