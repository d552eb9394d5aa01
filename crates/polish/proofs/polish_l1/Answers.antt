use Rattle.std.proofs.Common.{arith, ◌≡◌, ◌-◌, ◌+◌, ◌∙◌, ap, refl, Bool, true, false, length}
use Rattle.vectors.specs.Parts.{part}
use Rattle.vectors.proofs.Parts.{part-size}
use Rattle.dual_point.specs.Lanes.{candidate_trend, candidate_lane}
use Rattle.dual_point.specs.Places.{point}
use Rattle.dual_point.proofs.Known.{dy_long}
use Rattle.active_set.specs.ActiveSet.{hold_at}
use Rattle.polish.specs.Places.{found}
use Rattle.polish.proofs.Ends.{polish_is, freed, ended_none, ended_some}
use Rattle.polish.proofs.polish_l1.Goals as goal

pub make_candidate-requires : goal.make_candidate-requires
make_candidate-requires c =
    let a = c.args in
    let p = c.requires.ready in
    let size = c.mark-q.ensures.1.size in
    (freed a.k (length a.dy.now) c.mark-q.ensures.0 p.series.order.high (omega arith) (omega arith) (dy_long a.k a.y.now a.dy.now p.known), p.room)

pub returns-then-not-make_candidate : goal.returns-then-not-make_candidate
returns-then-not-make_candidate c =
    let a = c.args in
    let n = length a.y.now in
    let no : c.make_candidate.result ≡ false = c.if-not-make_candidate.true in
    let h = hold_at a.lam (point n (n - a.k) a.work.now) in
    ended_none a.k a.y.now a.lam a.dual.now c.mark-q.ensures.1 c.make_candidate.ensures.kept
    (polish_is a.k a.y.now a.dy.now c.requires.ready.known a.lam a.work.now (c.make_candidate.ensures.found_is h c.mark-q.ensures.0 ∙ rw no))

pub returns : goal.returns
returns c =
    let a = c.args in
    let n = length a.y.now in
    let p = c.requires.ready in
    let big = p.room in
    let yes : c.make_candidate.result ≡ true = c.if-not-make_candidate.false in
    let h = hold_at a.lam (point n (n - a.k) a.work.now) in
    let w₁ = c.make_candidate.new.s in
    let l = candidate_lane n + (n - a.k) - candidate_trend n in
    let s = c.make_candidate.ensures.kept.size in
    let x = c.certify_l1-c.new.s in
    let e = part-size (candidate_trend n) l w₁ x (omega arith) c.certify_l1-c.auto.s in
    ended_some a.k a.y.now a.lam a.dual.now c.mark-q.ensures.1 c.make_candidate.ensures.kept big l (omega arith) x e c.certify_l1-c.result.primal c.certify_l1-c.result.dual
    (polish_is a.k a.y.now a.dy.now p.known a.lam a.work.now (c.make_candidate.ensures.found_is h c.mark-q.ensures.0 ∙ ap (λ (b : Bool). found b (part (candidate_lane n) (n - a.k) w₁)) yes)) c.certify_l1-c.new.dual c.certify_l1-c.ensures _ refl refl
