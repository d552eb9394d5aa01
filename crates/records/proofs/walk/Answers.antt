use mir.Val.{bool_byte}
use Rattle.std.proofs.Common.{refl, ap, ◌∙◌}
use Rattle.records.specs.Week.{entries_in}
use Rattle.records.proofs.Entries.{same_settings}
use Rattle.records.proofs.Passing.{walk_err, passed_end, passed_bad, counted_none, counted_more}
use Rattle.records.proofs.walk.Goals as goal

pub loop-r-init : goal.loop-r-init
loop-r-init c = counted_none _

pub returns-in_err-r : goal.returns-in_err-r
returns-in_err-r c = walk_err (entries_in c.args.s.now) _ c.from_residual.ensures.0 (passed_bad c.loop-r.invariant.passed c.in_err-r.ensures)

pub loop-r-preserved : goal.loop-r-preserved
loop-r-preserved c =
    let f = rw c.in-Some.is at c.in_ok-r.ensures in
    let e = c.from-settings.ensures ∙ ap bool_byte (c.eq.ensures ∙ same_settings c.in-Some.r.kind) in
    rw e (counted_more c.loop-r.invariant f)

pub returns : goal.returns
returns c =
    let e = rw c.in_default.is at c.in_ok-r.ensures in
    rw (passed_end c.loop-r.invariant.passed e, c.loop-r.invariant.settings) refl
