use Rattle.std.proofs.Common.{arith, ◌≡◌, ◌∙◌, refl, ap, ℕ, ◌+◌, ◌-◌, ◌≤◌, length, take, drop, List, Bool, cond, Float, unwrap_or}
use mathlib.Core.Option.{Option}
use lib.Ieee.{nan, le}
use Rattle.float64.specs.Ops.{◌⊗◌}
use Rattle.vectors.specs.Parts.{part}
use Rattle.vectors.proofs.Laws.{kept_then}
use Rattle.vectors.proofs.Parts.{length_part, range_part, part_below}
use Rattle.differences.specs.Diff.{diff_k, gram_row}
use Rattle.certificate.specs.Certificate.{clamped, certify}
use Rattle.certificate.proofs.Laws.{length-clamped}
use Rattle.dual_point.specs.Dual.{Dual}
use Rattle.dual_point.specs.Lanes.{candidate_trend, search_area}
use Rattle.polish.specs.Polish.{polish}
use Rattle.polish.specs.Places.{is_some}
use Rattle.polish.specs.declared.Candidate.{Candidate}
use Rattle.questions.specs.Asking.{asking}
use Rattle.fit.specs.Fit.{certificate_at, search_of, kept_of, path_end}
use Rattle.search_path.proofs.Kept.{kept_of_lem, kept_dual}
use Rattle.search_path.proofs.search_polish.Goals as goal
use Rattle.search_path.proofs.search_polish.Goals.{After-won-second}

pub polish_l1-q-requires : goal.polish_l1-q-requires
polish_l1-q-requires c =
    let h = c.requires in
    let r = h.ready in
    let f = c.ipm_l1-e.ensures in
    record {
      ready = record { series = r.series; room = omega (arith, r.room, f.kept.size); known = r.known };
      room = omega (arith, h.room, f.dual_kept.size);
      marked = h.marked;
    }

-- the run and dual after the polish have room
module _ (c : After-won-second) where
  abbrev n : ℕ
  n = length c.args.y.now

  abbrev m : ℕ
  m = n - c.args.k

  long : search_area n ≤ length c.polish_l1-q.new.work
  long = omega (arith, c.requires.ready.room, c.ipm_l1-e.ensures.kept.size, c.polish_l1-q.ensures.kept.size)

  fits : m ≤ length c.polish_l1-q.new.dual
  fits = omega (arith, c.requires.room, c.ipm_l1-e.ensures.dual_kept.size, c.polish_l1-q.ensures.dual.size)

  -- the iterate's z, where the polish left it
  range : take (n + m - n) (drop n c.polish_l1-q.new.work) ≡ part n m c.polish_l1-q.new.work
  range = range_part n (n + m) m c.polish_l1-q.new.work refl (omega (arith, long))

  length-range : length (take (n + m - n) (drop n c.polish_l1-q.new.work)) ≡ m
  length-range = ap length range ∙ length_part n m c.polish_l1-q.new.work

pub returns : goal.returns
unfolding search_of kept_of path_end certify
returns c =
    let won = (goal.at.returns c).After-won-second in
    let p = c.args in
    let y = p.y.now in
    let k = p.k in
    let n = length y in
    let lam = p.lam in
    let wo = c.won-second.ensures in
    let f = c.ipm_l1-e.ensures in
    let g = c.polish_l1-q.ensures in
    let r = c.ipm_l1-e.result.run in
    let v = c.polish_l1-q.result in
    let s = c.polish_l1-q.new.work in
    let d₂ = c.polish_l1-q.new.dual in
    let it : Candidate = record { gap = r.gap; primal = r.primal } in
    let zc = clamped lam (take (n + (n - k) - n) (drop n s)) in
    let dual = kept_dual c.won-second.result (n - k) zc d₂ _ c.keep.ensures (length-clamped lam _ ∙ length-range won) (fits won) in
    let of : Dual → Option (List Float) = λ d. polish k (gram_row k) (diff_k k y) lam d in
    record {
      reached = λ penalty.
          let a = asking y lam p.tol p.max_iter k penalty in
          let d = (search_of a).state.point in
          let t = part_below nan 0 n g.kept (omega arith) ∙ f.trend in
          let e = kept_of_lem a (certificate_at a d.z) s d₂ it (part 0 n s) zc f.gap f.primal t
          (ap (clamped lam) (range won ∙ part_below nan n (n - k) g.kept (omega arith) ∙ ap (λ (u : Dual). u.z) f.ends)) v (of d)
          (g.there ∙ ap (λ (u : Dual). is_some (of u)) f.ends) (λ z e. g.rated z (ap of f.ends ∙ e)) in
          let end = c.chosen-end.ensures ∙ ap (λ (b : Bool). cond b (unwrap_or v it) it) wo in
          let gap = ap (λ (t : Candidate). t.gap) end ∙ e.gap_is in
          let primal = ap (λ (t : Candidate). t.primal) end ∙ e.primal_is in
          record {
            second = c.won-second.result;
            place = refl;
            trend = ap (λ (b : Bool). cond b (part (candidate_trend n) n s) (part 0 n s)) wo ∙ e.trend_is;
            dual = dual.0 ∙ ap (λ (b : Bool). cond b (part 0 (n - k) d₂) zc) wo ∙ e.dual_is;
            numbers = λ i. record {
              gap = gap i;
              first_gap = f.first i;
              best_gap = f.best i;
              objective = primal i;
              n_iter = f.n_iter i;
              improvements = f.improvements i;
              converged = le (gap i) (p.tol ⊗ primal i);
              reason = f.reason i;
            };
          };
      kept = kept_then 0 (search_area n) f.kept g.kept (omega arith) (omega arith) (omega arith) (omega arith);
      dual_kept = kept_then 0 (n - k) f.dual_kept (kept_then 0 (n - k) g.dual dual.1 (omega arith) (omega arith) (omega arith) (omega arith)) (omega arith) (omega arith) (omega arith) (omega arith);
      marked = g.marks;
    }
