use mathlib.Core.Path.{◌≡◌, sym, ap, subst, ◌∙◌}
use mathlib.Core.Bool.{Bool, cond}
use Prim.Native.Nat.{ℕ, ◌+◌, ◌*◌, ◌≤◌}
use native.Mathlib.Omega.{arith}
use lib.ListN.{length}
use lib.Ieee.{nan}
use Rattle.vectors.specs.Parts.{part}
use Rattle.vectors.proofs.Parts.{range_part, part_of_range}
use Rattle.gram.specs.Prepared.{preparation}
use Rattle.dual_point.specs.Lanes.{candidate_trend, search_area}
use Rattle.closed_paths.specs.Trends.{solution_lane, trend_of, reach}
use Rattle.closed_paths.specs.declared.Trend.{Trend}
use Rattle.closed_paths.specs.declared.Trend.TheVariants.{Solution, Won}
use Rattle.paths.proofs.trend_of.Goals as goal

-- how far the trend reaches, from where it stands
solution-fits : (t : Trend) (n w : ℕ) → t ≡ Solution → reach t n ≤ w → solution_lane n + n ≤ w
unfolding reach
solution-fits t n w e h = subst (λ (u : Trend). reach u n ≤ w) e h

won-fits : (t : Trend) (b : Bool) (n w : ℕ) → t ≡ Won b → reach t n ≤ w → preparation n + search_area n ≤ w
unfolding reach
won-fits t b n w e h = subst (λ (u : Trend). reach u n ≤ w) e h

pub offset_bounds-work-n : goal.offset_bounds-work-n
offset_bounds-work-n c = omega (arith, solution-fits _ _ _ c.in-Solution.is c.requires)

pub slice_bounds-result-end : goal.slice_bounds-result-end
slice_bounds-result-end c = omega (arith, solution-fits _ _ _ c.in-Solution.is c.requires)

pub overflow_mul-n-in-Won : goal.overflow_mul-n-in-Won
overflow_mul-n-in-Won c = omega (arith, won-fits _ _ _ _ c.in-Won.is c.requires)

pub offset_bounds-work-n-in-Won : goal.offset_bounds-work-n-in-Won
offset_bounds-work-n-in-Won c = omega (arith, won-fits _ _ _ _ c.in-Won.is c.requires)

pub slice_bounds-winner-end : goal.slice_bounds-winner-end
slice_bounds-winner-end c = omega (arith, won-fits _ _ _ _ c.in-Won.is c.requires)

pub returns-in-Series : goal.returns-in-Series
unfolding trend_of
returns-in-Series c = let a = c.args in sym (ap (trend_of a.y.now a.work.now) c.in-Series.is)

pub returns-in-Solution : goal.returns-in-Solution
unfolding trend_of
returns-in-Solution c = let a = c.args in
    let n = length a.y.now in
    range_part (8 * n) (9 * n) n a.work.now (omega arith) (omega (arith, solution-fits _ _ _ c.in-Solution.is c.requires))
    ∙ sym (ap (trend_of a.y.now a.work.now) c.in-Solution.is)

pub returns-in-Won : goal.returns-in-Won
unfolding trend_of
returns-in-Won c = let a = c.args in
    let y = a.y.now in
    let w = a.work.now in
    let n = length y in
    let e = c.in-Won.is in
    let f : 18 * n ≤ length w = omega (arith, won-fits _ _ _ _ e c.requires) in
    let z : 5 * n + 0 ≡ 5 * n = omega arith in
    let first = part_of_range nan 0 n (5 * n) (18 * n) w (omega arith) f (omega arith) ∙ ap (λ (q : ℕ). part q n w) z in
    c.winner.ensures
    ∙ (λ i. cond c.in-Won.second (part_of_range nan (candidate_trend n) n (5 * n) (18 * n) w (omega arith) f (omega arith) i) (first i))
    ∙ sym (ap (trend_of y w) e)
