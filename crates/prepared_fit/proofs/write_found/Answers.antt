use Rattle.std.proofs.Common.{ap, ◌∙◌, length}
use Rattle.closed_paths.proofs.Areas.{length_trend}
use Rattle.prepared_fit.proofs.write_found.Goals as goal

pub write_out-requires : goal.write_out-requires
write_out-requires c =
    let h = c.requires in
    record { series = h.series; same = ap length c.trend_of-x.ensures ∙ length_trend _ _ _; trend = h.trend; cycle = h.cycle; knots = h.knots }
