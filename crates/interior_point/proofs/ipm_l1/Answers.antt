use mathlib.Core.Path.{sym, ◌∙◌}
use Rattle.interior_point.proofs.Turns.{loop_starts, all_found}
use Rattle.interior_point.proofs.ipm_l1.Goals as goal

pub loop-reason-init : goal.loop-reason-init
loop-reason-init c = let a = c.args in loop_starts a.k a.y.now a.lam c.start-r.ensures

pub returns-in-Some : goal.returns-in-Some
returns-in-Some c = let a = c.args in
    all_found a.k a.y.now a.lam c.gram_offsets-g.ensures c.start-r.ensures c.loop-reason.invariant (sym c.tested.ensures ∙ c.in-Some.is)
