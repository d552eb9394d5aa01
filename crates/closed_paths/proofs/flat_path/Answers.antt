use Rattle.std.proofs.Common.{arith, inl, ◌≡◌, ◌∙◌, refl, ◌+◌, ◌-◌, ◌*◌, ◌≤◌, length, take, drop}
use lib.Ieee.{nan}
use Rattle.vectors.proofs.Laws.{kept_then}
use Rattle.vectors.proofs.Parts.{part-size, kept_put}
use Rattle.gram.specs.Prepared.{preparation}
use Rattle.dual_point.specs.Lanes.{search_area}
use Rattle.questions.specs.Asking.{asking}
use Rattle.closed_paths.specs.Trends.{reach}
use Rattle.closed_paths.proofs.Areas.{rows_fit, flat-found}
use Rattle.closed_paths.proofs.flat_path.Goals as goal

pub overflow_mul-m : goal.overflow_mul-m
overflow_mul-m c =
    let s = c.requires.0.room.series in
    omega (arith, rows_fit c.args.k (length c.args.y.now - c.args.k) s.order.high, s.short)

pub copy_within-requires : goal.copy_within-requires
copy_within-requires c =
    let p = c.requires.0.room in
    let f = rows_fit c.args.k (length c.args.y.now - c.args.k) p.series.order.high in
    let r = p.work in
    record { apart = inl (omega arith); first = omega arith; second = omega arith }

pub certify_l1-p-requires : goal.certify_l1-p-requires
certify_l1-p-requires c =
    let a = c.args in
    let n = length a.y.now in
    let p = c.requires.0.room in
    let r = p.work in
    let w = c.copy_within.new.s in
    let size = c.copy_within.ensures.1.size in
    let l = 5 * n + n + (n - a.k) - 5 * n in
    let q : length (take l (drop (5 * n) w)) ≡ l = part-size (5 * n) l w (take l (drop (5 * n) w)) (omega arith) refl in
    (record { series = p.series; room = omega arith; known = c.differences_to.ensures.known }, c.requires.1)

pub returns : goal.returns
unfolding reach
returns c =
    let a = c.args in
    let y = a.y.now in
    let n = length y in
    let p = c.requires.0 in
    let room = p.room.work in
    let long = p.room.series.long in
    let w = c.copy_within.new.s in
    let x = c.certify_l1-p.new.s in
    let s = 5 * n in
    let e = s + n + (n - a.k) in
    let copied = c.copy_within.ensures in
    let width = copied.1.size in
    let fits : e ≤ length w = omega arith in
    let size : length x ≡ e - s = part-size s (e - s) w x (omega arith) c.certify_l1-p.auto.s in
    let r = c.certify_l1-p.result in
    let made = kept_put s (e - s) w x (omega arith) size nan in
    rw c.closed.ensures
    (record {
      says = λ t. flat-found (asking y a.lam t.0 t.1.0 a.k t.1.1) w x a.dual.now c.certify_l1-p.new.dual r.primal r.dual (omega arith) fits size (copied.0 ∙ p.star) c.certify_l1-p.ensures;
      stands = omega (arith, made.size);
      changed = record {
        work = kept_then (preparation n) (search_area n) copied.1 made (omega arith) (omega arith) (omega arith) (omega arith);
        cycle = c.differences_to.ensures.kept;
        dual = c.certify_l1-p.ensures.dual_kept;
      };
    })
