use Rattle.std.proofs.Common.{refl, arith}
use Rattle.prepared_fit.proofs.Laws.{reach-found, fitted_lost, fitted_done}
use Rattle.prepared_fit.proofs.fit_prepared.Goals as goal

pub returns-in_err-f : goal.returns-in_err-f
returns-in_err-f c =
    let t = c.in_err-f.ensures in
    rw c.from_residual.ensures (fitted_lost t.0 t.1 _ _ refl)

pub write_found-count-requires : goal.write_found-count-requires
write_found-count-requires c =
    let h = c.requires in
    let l1 = h.path.search.l1 in
    let t = c.in_ok-f.ensures.0 in
    let size = t.changed.cycle.size in
    record { series = l1.room.series; stands = reach-found _ _ _ _ refl t.stands; trend = h.trend; cycle = omega arith; knots = h.knots }

pub returns : goal.returns
returns c =
    let t = c.in_ok-f.ensures in
    let s = c.requires.path.search in
    fitted_done t.0 t.1 s.l1.cycle s.dual _ _ _ _ _ _ _ refl c.write_found-count.ensures
