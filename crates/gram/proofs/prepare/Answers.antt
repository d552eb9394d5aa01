use Rattle.std.proofs.Common.{◌≡◌, ◌+◌, ◌-◌, true, false, rules, length, refl, ap, ◌∙◌, arith}
use Rattle.vectors.specs.Sums.{max_abs}
use Rattle.vectors.proofs.Parts.{range_part}
use Rattle.gram.specs.Prepared.{star_lane}
use Rattle.gram.proofs.System.{system-bad, system-solved}
use Rattle.gram.proofs.prepare.Goals as goal

pub returns-then-not-factor_solve_at : goal.returns-then-not-factor_solve_at
returns-then-not-factor_solve_at c = let a = c.args in
    let bad : c.factor_solve_at.result ≡ false = search rules in
    system-bad a.k a.y.now a.s.now c.lay_system.new.s c.factor_solve_at.new.s c.lay_system.ensures c.factor_solve_at.ensures bad

pub returns : goal.returns
returns c = let a = c.args in
    let k = a.k in
    let n = length a.y.now in
    let s = c.factor_solve_at.new.s in
    let h = c.lay_system.ensures in
    let q = c.factor_solve_at.ensures in
    let good : c.factor_solve_at.result ≡ true = search rules in
    let t = range_part (star_lane k n) (star_lane k n + (n - k)) (n - k) s refl (omega (arith, h.ends, h.kept.size, q.kept.size)) in
    system-solved k a.y.now a.s.now c.lay_system.new.s s h q _ good (c.max_abs.ensures ∙ ap max_abs t)
