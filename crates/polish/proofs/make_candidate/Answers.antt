use Rattle.std.proofs.Common.{arith, ◌≡◌, ◌-◌, ◌+◌, ◌*◌, sym, ◌∙◌, true, false, [], take, drop, refl}
use lib.Ieee.{nan}
use Rattle.vectors.specs.Parts.{part}
use Rattle.vectors.proofs.Laws.{kept_then, written_kept}
use Rattle.vectors.proofs.Parts.{kept_part, part-size, put_back, store_done}
use Rattle.differences.specs.Diff.{gram_row}
use Rattle.dual_point.specs.Lanes.{settle_lane, candidate_trend, candidate_lane, polish_area}
use Rattle.active_set.specs.Marks.{held_by}
use Rattle.active_set.proofs.Settling.{room}
use Rattle.polish.specs.Polish.{candidate_at}
use Rattle.polish.proofs.Candidates.{solution_at, candidate_none, candidate_some}
use Rattle.polish.proofs.make_candidate.Goals as goal

pub settle-requires : goal.settle-requires
settle-requires c =
    let a = c.args in
    let l = candidate_trend a.n - settle_lane a.n in
    let z = part-size (settle_lane a.n) l a.s.now (take l (drop (settle_lane a.n) a.s.now)) (omega arith) refl in
    (c.requires.0, omega (arith, room a.k a.q a.n (omega arith) (omega arith)))

pub returns-then-not-settle : goal.returns-then-not-settle
returns-then-not-settle c =
    let a = c.args in
    let l = candidate_trend a.n - settle_lane a.n in
    let x = c.settle.new.s in
    let e = part-size (settle_lane a.n) l a.s.now x (omega arith) c.settle.auto.s in
    let no : c.settle.result ≡ false = c.if-not-settle.true in
    record {
      found_is = λ h w. candidate_none w a.k (gram_row a.k) a.dy.now a.lam [] (sym no ∙ c.settle.ensures.answer h w);
      kept = kept_part (settle_lane a.n) l (polish_area a.n) a.s.now x (omega arith) e (omega arith);
    }

pub returns : goal.returns
returns c =
    let a = c.args in
    let n = a.n in
    let p = c.requires.0 in
    let m = n - a.k in
    let l = candidate_trend n - settle_lane n in
    let s = a.s.now in
    let x = c.settle.new.s in
    let e = part-size (settle_lane n) l s x (omega arith) c.settle.auto.s in
    let r = room a.k a.q n p.order (omega arith) in
    let s₁ = put_back (settle_lane n) l s x in
    let s₂ = c.fill_candidate.new.s in
    let b = a.q * (a.k + 1) in
    let w₂ = c.fill_candidate.ensures in
    let yes : c.settle.result ≡ true = c.if-not-settle.false in
    record {
      found_is = λ h w.
          candidate_some w a.k (gram_row a.k) a.dy.now a.lam (part (candidate_lane n) m s₂) (part (settle_lane n + b) m s₁) (sym yes ∙ c.settle.ensures.answer h w)
          (store_done nan (candidate_lane n) m (candidate_at a.lam (held_by n a.marks.now) (part (settle_lane n + b) m s₁)) s₁ s₂ w₂)
          (solution_at w (settle_lane n) l b s x _ (omega arith) e (omega arith) (omega arith) (c.settle.ensures.solution h w yes));
      kept = kept_then (settle_lane n) (polish_area n) (kept_part (settle_lane n) l l s x (omega arith) e (omega arith)) (written_kept w₂) (omega arith) (omega arith) (omega arith) (omega arith);
    }
