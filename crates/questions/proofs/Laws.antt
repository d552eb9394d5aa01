-- What holds where no question is answered no, and what the questions tell apart. Assumes nothing.
use mathlib.Core.Path.{◌≡◌, refl, ap, ◌∙◌}
use mathlib.Core.List.{List}
use mathlib.Core.Bool.{Bool, true, false, cond, not, ◌&&◌, ◌||◌}
use Prim.Native.Nat.{ℕ, zero, suc, ◌+◌, ◌≤◌, ◌<◌}
use native.Mathlib.Omega.{arith}
use borrow.Author.Tests.{leb-true, le-leb, lt-leb, eqb-true, eqb-false, eq-eqb, not-true}
use lib.Dec.{leb, eqb}
use lib.ListN.{length}
use lib.Ieee.{Float, lt}
use Rattle.float64.specs.Helpers.{is_finite}
use Rattle.float64.specs.Ops.{c0}
use Rattle.float64.proofs.Clash.{clash}
use Rattle.vectors.specs.Vec.{at}
use Rattle.vectors.proofs.Sums.{both}
use Rattle.differences.specs.Series.{Order, Series}
use Rattle.questions.specs.Questions.{Asked, Lent, one_or_two, finite_to, needs_for, ask, room, question}
use Rattle.questions.specs.Groups.{kinds_known, long_enough, short_enough, all_finite, lam_right, tol_right, limit_right, answer_room, scratch_room, sizes, values, next}
use Rattle.questions.specs.Asking.{asking}
use Rattle.questions.specs.Beforehand.{first_no}

-- ---- the questions in three groups
next-ask : (k : ℕ) (b : Bool) (r s : ℕ) → eqb k 0 ≡ false → next (ask k b r) s ≡ ask k b (next r s)
next-ask k true r s h = refl
next-ask k false r s h = rw h

pub grouped : (a : Asked) (l : Lent) → question a l ≡ next (sizes (length a.y) a.order a.penalty) (next (values a.y a.lam a.tol a.max_iter) (room (length a.y) (needs_for a) l))
unfolding question sizes values
grouped a l = rw (next-ask 1 _ _ _ refl, next-ask 2 _ _ _ refl, next-ask 3 _ _ _ refl, next-ask 4 _ _ _ refl, next-ask 5 _ _ _ refl, next-ask 6 _ _ _ refl, next-ask 7 _ _ _ refl)

-- those asked before a call: 1 to 3, then 7
pub grouped_first : (n max_iter order penalty : ℕ) → first_no n max_iter order penalty ≡ next (sizes n order penalty) (ask 7 (limit_right max_iter) 0)
unfolding sizes
grouped_first n max_iter order penalty = rw (next-ask 1 _ _ _ refl, next-ask 2 _ _ _ refl, next-ask 3 _ _ _ refl)

-- ---- a question answered yes
pub past : (k : ℕ) (b : Bool) (r : ℕ) → cond b r (suc k) ≡ 0 → (b ≡ true) × (r ≡ 0)
past k true r p = (refl, p)
past k false r p = absurd (omega arith)

-- a question answered no gives its own number and no other
pub other : {j : ℕ} (k : ℕ) (b : Bool) (r : ℕ) → eqb k j ≡ false → cond b r k ≡ j → r ≡ j
other k true r h p = p
other {j} k false r h p = absurd (clash (eq-eqb k j p) h)

one_or_two_lem : (x : ℕ) → one_or_two x ≡ true → Order x
one_or_two_lem x = go (eqb x 1) refl
  where
    go : (b : Bool) → eqb x 1 ≡ b → b || eqb x 2 ≡ true → Order x
    go true e p = let q : x ≡ 1 = eqb-true x 1 e in record { low = omega arith; high = omega arith }
    go false e p = let q : x ≡ 2 = eqb-true x 2 p in record { low = omega arith; high = omega arith }

finite_place : (y : List Float) (n : ℕ) → finite_to y n ≡ true → (i : ℕ) → i < n → is_finite (at y i) ≡ true
unfolding finite_to
finite_place y zero p i h = absurd (omega arith)
finite_place y (suc n) p i h =
    let q = both (finite_to y n) (is_finite (at y n)) p in
    go (eqb i n) refl q.1 (λ b. finite_place y n q.0 i b)
  where
    go : (b : Bool) → eqb i n ≡ b → is_finite (at y n) ≡ true → (i < n → is_finite (at y i) ≡ true) → is_finite (at y i) ≡ true
    go true e last before = ap (λ (j : ℕ). is_finite (at y j)) (eqb-true i n e) ∙ last
    go false e last before = before (omega (arith, eqb-false i n e))

pub sizes_short : (n order penalty : ℕ) → sizes n order penalty ≡ 0 → n ≤ 65536
unfolding sizes
sizes_short n order penalty e =
    let q1 = past 0 (kinds_known order penalty) _ e in
    let q2 = past 1 (long_enough n order) _ q1.1 in
    leb-true n 65536 (past 2 (short_enough n) 0 q2.1).0

-- ---- every question answered yes: each by itself
pub record Yes (a : Asked) (l : Lent) : Type 0 where
  pub kinds : kinds_known a.order a.penalty ≡ true
  pub long : long_enough (length a.y) a.order ≡ true
  pub short : short_enough (length a.y) ≡ true
  pub finite : all_finite a.y ≡ true
  pub lam : lam_right a.lam ≡ true
  pub tol : tol_right a.tol ≡ true
  pub limit : limit_right a.max_iter ≡ true
  pub answer : answer_room (length a.y) l ≡ true
  pub scratch : scratch_room (needs_for a) l ≡ true

pub each_yes : (a : Asked) (l : Lent) → question a l ≡ 0 → Yes a l
unfolding question room
each_yes a l e =
    let n = length a.y in
    let q1 = past 0 (kinds_known a.order a.penalty) _ e in
    let q2 = past 1 (long_enough n a.order) _ q1.1 in
    let q3 = past 2 (short_enough n) _ q2.1 in
    let q4 = past 3 (all_finite a.y) _ q3.1 in
    let q5 = past 4 (lam_right a.lam) _ q4.1 in
    let q6 = past 5 (tol_right a.tol) _ q5.1 in
    let q7 = past 6 (limit_right a.max_iter) _ q6.1 in
    let q8 = past 7 (answer_room n l) _ q7.1 in
    let q9 = past 8 (scratch_room (needs_for a) l) 0 q8.1 in
    record { kinds = q1.0; long = q2.0; short = q3.0; finite = q4.0; lam = q5.0; tol = q6.0; limit = q7.0; answer = q8.0; scratch = q9.0 }

-- and what they tell
pub record Passed (a : Asked) (l : Lent) : Type 0 where
  pub series : Series a.order (length a.y)
  pub penalty : Order a.penalty
  pub finite : (i : ℕ) → i < length a.y → is_finite (at a.y i) ≡ true
  pub lam_finite : is_finite a.lam ≡ true
  pub lam_not_below : lt a.lam c0 ≡ false
  pub tol_finite : is_finite a.tol ≡ true
  pub tol_above : lt c0 a.tol ≡ true
  pub max_iter : 1 ≤ a.max_iter
  pub trend : length a.y ≤ l.trend
  pub cycle : length a.y ≤ l.cycle
  pub knots : length a.y ≤ l.knots
  pub dual : length a.y ≤ l.dual
  pub work : (needs_for a).work ≤ l.work
  pub marks : (needs_for a).marks ≤ l.marks

pub passed : (a : Asked) (l : Lent) → question a l ≡ 0 → Passed a l
passed a l e =
    let n = length a.y in
    let q = each_yes a l e in
    let kinds = both (one_or_two a.order) (one_or_two a.penalty) q.kinds in
    let lam = both (is_finite a.lam) (not (lt a.lam c0)) q.lam in
    let tol = both (is_finite a.tol) (lt c0 a.tol) q.tol in
    let answer = both (leb n l.trend && leb n l.cycle && leb n l.knots) (leb n l.dual) q.answer in
    let parts = both (leb n l.trend && leb n l.cycle) (leb n l.knots) answer.0 in
    let curves = both (leb n l.trend) (leb n l.cycle) parts.0 in
    let scratch = both (leb (needs_for a).work l.work) (leb (needs_for a).marks l.marks) q.scratch in
    record {
      series =
          let long : a.order + 1 ≤ n = leb-true (a.order + 1) n q.long in
          record { order = one_or_two_lem a.order kinds.0; long = omega arith; short = leb-true n 65536 q.short };
      penalty = one_or_two_lem a.penalty kinds.1;
      finite = finite_place a.y n q.finite;
      lam_finite = lam.0;
      lam_not_below = not-true (lt a.lam c0) lam.1;
      tol_finite = tol.0;
      tol_above = tol.1;
      max_iter = leb-true 1 a.max_iter q.limit;
      trend = leb-true n l.trend curves.0;
      cycle = leb-true n l.cycle curves.1;
      knots = leb-true n l.knots parts.1;
      dual = leb-true n l.dual answer.1;
      work = leb-true (needs_for a).work l.work scratch.0;
      marks = leb-true (needs_for a).marks l.marks scratch.1;
    }

-- ---- the questions do not tell two limits from 1 up apart
pub same_question : (a : Asked) (l : Lent) (m : ℕ) → 1 ≤ a.max_iter → 1 ≤ m
    → question (asking a.y a.lam a.tol m a.order a.penalty) l ≡ question a l
unfolding question room
same_question a l m h k = rw (le-leb 1 m k, le-leb 1 a.max_iter h)

-- ---- question 3: a series of more than 65,536 places is refused with 3 where order and penalty are right, and no shorter one is
pub too_long : (a : Asked) (l : Lent) → one_or_two a.order ≡ true → one_or_two a.penalty ≡ true → 65536 < length a.y → question a l ≡ 3
unfolding question
too_long a l o p h =
    let k = one_or_two_lem a.order o in
    rw (o, p, le-leb (a.order + 1) (length a.y) (omega arith), lt-leb (length a.y) 65536 h)

pub not_too_long : (a : Asked) (l : Lent) → length a.y ≤ 65536 → question a l ≡ 3 → ⊥
unfolding question room
not_too_long a l h e =
    let n = length a.y in
    let q2 = other 2 (long_enough n a.order) _ refl (other 1 (kinds_known a.order a.penalty) _ refl e) in
    let q5 = other 5 (lam_right a.lam) _ refl (other 4 (all_finite a.y) _ refl (rw (le-leb n 65536 h) at q2)) in
    let q7 = other 7 (limit_right a.max_iter) _ refl (other 6 (tol_right a.tol) _ refl q5) in
    let z : zero ≡ 3 = other 9 (scratch_room (needs_for a) l) 0 refl (other 8 (answer_room n l) _ refl q7) in
    omega arith
