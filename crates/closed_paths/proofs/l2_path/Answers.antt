use Rattle.std.proofs.Common.{arith, ◌≡◌, ◌∙◌, refl, sym, ap, subst, true, List, ℕ, ◌+◌, ◌-◌, ◌*◌, length, take, drop, Float}
use mathlib.Core.Option.{some}
use lib.Ieee.{nan}
use Rattle.vectors.proofs.Laws.{kept_none}
use Rattle.vectors.proofs.Parts.{put_back, length_part, range_part, part-size, kept_put}
use Rattle.vectors.proofs.Texts.{put_start}
use Rattle.differences.specs.Diff.{diff_k}
use Rattle.gram.specs.Prepared.{preparation}
use Rattle.l2.specs.L2.{trend_l2, scaled}
use Rattle.l2.specs.Solved.{Ended}
use Rattle.l2.proofs.Scaled.{length-scaled}
use Rattle.questions.specs.Asking.{asking}
use Rattle.fit.specs.Fit.{closed}
use Rattle.closed_paths.specs.Trends.{ridge_area, trend_of, reach, said, reached}
use Rattle.closed_paths.proofs.Areas.{kept_wide, rows_fit, solution_stands, good_l2, l2_sound, l2_unsound, some_none}
use Rattle.closed_paths.proofs.l2_path.Goals as goal

pub overflow_mul-a : goal.overflow_mul-a
overflow_mul-a c =
    let p = c.requires.0.series in
    omega (arith, rows_fit c.args.k (length c.args.y.now) p.order.high, p.short)

pub overflow_sub-a : goal.overflow_sub-a
overflow_sub-a c = omega (arith, rows_fit c.args.k (length c.args.y.now) c.requires.0.series.order.high)

pub solve_l2-requires : goal.solve_l2-requires
solve_l2-requires c =
    let n = length c.args.y.now in
    let w = c.args.work.now in
    let p = c.requires.0.series in
    let f = rows_fit c.args.k n p.order.high in
    let r = c.requires.0.work in
    let a = 8 * n - n * (c.args.k + 1) in
    let q : length (take (9 * n - a) (drop a w)) ≡ 9 * n - a = part-size a (9 * n - a) w (take (9 * n - a) (drop a w)) (omega arith) refl in
    (p, omega arith)

pub returns-then-not-solve_l2 : goal.returns-then-not-solve_l2
unfolding said reached
returns-then-not-solve_l2 c =
    let g = c.args in
    let y = g.y.now in
    let k = g.k in
    let n = length y in
    let w = g.work.now in
    let x = c.solve_l2.new.s in
    let f = rows_fit k n c.requires.0.series.order.high in
    let r = c.requires.0.work in
    let a = 8 * n - n * (k + 1) in
    let size : length x ≡ 9 * n - a = part-size a (9 * n - a) w x (omega arith) c.solve_l2.auto.s in
    let made = kept_put a (9 * n - a) w x (omega arith) size nan in
    λ tol m p c'. record {
      says = l2_unsound (asking y g.lam tol m k p) (sym c.solve_l2.ensures.sound ∙ c.if-not-solve_l2.true);
      stands = omega arith;
      lost = λ e. (refl, refl);
      changed = record { work = kept_wide (preparation n) (ridge_area n) made (omega arith) (omega arith); cycle = kept_none 0 n c'; dual = kept_none 0 (n - k) g.dual.now };
    }

pub returns : goal.returns
unfolding said reached reach trend_of
returns c =
    let g = c.args in
    let y = g.y.now in
    let k = g.k in
    let n = length y in
    let w₀ = g.work.now in
    let x = c.solve_l2.new.s in
    let h = rows_fit k n c.requires.0.series.order.high in
    let r = c.requires.0.work in
    let a = 8 * n - n * (k + 1) in
    let b = 8 * n in
    let e = 9 * n in
    let yes : c.solve_l2.result ≡ true = c.if-not-solve_l2.false in
    let size : length x ≡ e - a = part-size a (e - a) w₀ x (omega arith) c.solve_l2.auto.s in
    let made = kept_put a (e - a) w₀ x (omega arith) size nan in
    let held = solution_stands k y g.lam w₀ x c.solve_l2.result a e (omega arith) (omega arith) (omega arith) size c.solve_l2.ensures yes in
    let w = put_back a (e - a) w₀ x in
    let t = trend_l2 k y g.lam in
    let d₀ = g.dual.now in
    let d = c.objectives-o.new.dual in
    let long : length t ≡ n = sym (ap length held) ∙ length_part b n w in
    let ended = subst (λ (v : List Float). Ended k y g.lam v d₀ d c.objectives-o.result) (range_part b e n w (omega arith) (omega (arith, made.size)) ∙ held) c.objectives-o.ensures in
    let dual = put_start (n - k) d₀ (scaled g.lam (diff_k k t)) d ended.dual (length-scaled g.lam k t ∙ ap (λ (q : ℕ). q - k) long) c.requires.1 in
    rw c.closed.ensures
    (λ tol m p c'.
    let a = asking y g.lam tol m k p in
    let q = l2_sound a (sym c.solve_l2.ensures.sound ∙ yes) in
    record {
      says = (λ i. some (record { trend = held i; dual = dual.0 i; numbers = closed (ended.gap i) (ended.objective i) })) ∙ q;
      stands = omega (arith, made.size);
      lost = λ z. absurd (some_none (good_l2 a) (q ∙ z));
      changed = record { work = kept_wide (preparation n) (ridge_area n) made (omega arith) (omega arith); cycle = kept_none 0 n c'; dual = dual.1 };
    })
