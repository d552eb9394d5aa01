use Rattle.std.proofs.Common.{arith, ◌≡◌, ◌∙◌, refl, ℕ, ◌-◌, ◌*◌, length, take, drop}
use lib.Ieee.{nan}
use Rattle.vectors.proofs.Parts.{part-size, kept_put}
use Rattle.gram.specs.Prepared.{preparation}
use Rattle.dual_point.specs.Lanes.{search_area}
use Rattle.questions.specs.Asking.{asking}
use Rattle.closed_paths.specs.Trends.{reach}
use Rattle.search_path.proofs.Areas.{search_says}
use Rattle.search_path.proofs.search_path.Goals as goal

-- the area behind the preparation
area : (n : ℕ) → 18 * n - 5 * n ≡ search_area n
area n = omega arith

pub search_polish-requires : goal.search_polish-requires
search_polish-requires c =
    let a = c.args in
    let n = length a.y.now in
    let l1 = c.requires.l1 in
    let r = l1.room in
    let w = a.work.now in
    let l : length (take (18 * n - 5 * n) (drop (5 * n) w)) ≡ 18 * n - 5 * n = part-size (5 * n) (18 * n - 5 * n) w (take (18 * n - 5 * n) (drop (5 * n) w)) (omega (arith, r.work)) refl in
    record { ready = record { series = r.series; room = omega (arith, l); known = c.differences_to.ensures.known }; room = c.requires.dual; marked = c.requires.marked }

pub returns : goal.returns
unfolding reach
returns c =
    let a = c.args in
    let y = a.y.now in
    let n = length y in
    let r = c.requires.l1.room in
    let w = a.work.now in
    let x = c.search_polish.new.work in
    let e = c.search_polish.ensures in
    let size : length x ≡ search_area n = part-size (5 * n) (18 * n - 5 * n) w x (omega (arith, r.work)) c.search_polish.auto.work ∙ area n in
    let made = kept_put (preparation n) (search_area n) w x r.work size nan in
    rw (area n) (
      record {
        says = λ i. search_says (asking y a.lam a.tol a.max_iter a.k i) w x _ c.search_polish.result r.work size (e.reached i);
        stands = rw (e.reached 1).place (omega (arith, r.work, made.size));
        changed = record { work = made; cycle = c.differences_to.ensures.kept; dual = e.dual_kept };
      },
      e.marked,
    )
