-- What the answer before a call tells of its questions. Assumes nothing.
use mathlib.Core.Path.{◌≡◌, refl, sym, ap, subst}
use mathlib.Core.Bool.{Bool, true, false, cond}
use Prim.Native.Nat.{ℕ, zero, ◌≤◌}
use native.Mathlib.Omega.{arith}
use borrow.Author.Tests.{le-leb, eqb-false}
use lib.Dec.{eqb}
use lib.ListN.{length}
use Rattle.float64.proofs.Clash.{impossible}
use Rattle.questions.specs.declared.Figures.{Figures}
use Rattle.std.specs.Prelude.{Ok, Err}
use Rattle.questions.specs.Questions.{Asked, Lent, needs_for, ask, room, question}
use Rattle.questions.specs.Groups.{kinds_known, long_enough, short_enough, all_finite, lam_right, tol_right, limit_right, answer_room}
use Rattle.questions.specs.Beforehand.{first_no, needed, needed_for, Foretells}
use Rattle.questions.proofs.Laws.{each_yes, other}

-- whoever passes every question passes 1, 2, 3 and 7
first_passes : (a : Asked) (l : Lent) → question a l ≡ 0 → first_no (length a.y) a.max_iter a.order a.penalty ≡ 0
first_passes a l e = let q = each_yes a l e in rw (q.kinds, q.long, q.short, q.limit)

-- the figures given are those of question 9
pub given_same : (a : Asked) (g : Figures) → needed_for a ≡ Ok g → needs_for a ≡ g
unfolding needed
given_same a g = go (eqb (first_no (length a.y) a.max_iter a.order a.penalty) 0)
  where
    go : (b : Bool) → cond b (Ok (needs_for a)) (Err (first_no (length a.y) a.max_iter a.order a.penalty)) ≡ Ok g → needs_for a ≡ g
    go true e = cc
    go false e = impossible cc

-- whoever lends them passes question 9
room-enough : (n : ℕ) (need : Figures) (l : Lent) → need.work ≤ l.work → need.marks ≤ l.marks → room n need l ≡ 9 → ⊥
unfolding room
room-enough n need l w m e =
    let z : zero ≡ 9 = rw (le-leb need.work l.work w, le-leb need.marks l.marks m) at (other 8 (answer_room n l) _ refl e) in
    omega arith

-- 9 comes from question 9
asked_9 : (a : Asked) (l : Lent) → question a l ≡ 9 → room (length a.y) (needs_for a) l ≡ 9
unfolding question
asked_9 a l e =
    let n = length a.y in
    let q3 = other 3 (short_enough n) _ refl (other 2 (long_enough n a.order) _ refl (other 1 (kinds_known a.order a.penalty) _ refl e)) in
    let q5 = other 5 (lam_right a.lam) _ refl (other 4 (all_finite a.y) _ refl q3) in
    other 7 (limit_right a.max_iter) _ refl (other 6 (tol_right a.tol) _ refl q5)

-- a refusal before has its question's number
refused_same : (a : Asked) (q : ℕ) → needed_for a ≡ Err q → let x = first_no (length a.y) a.max_iter a.order a.penalty in (x ≡ q) × (eqb x 0 ≡ false)
unfolding needed
refused_same a q = go (eqb (first_no (length a.y) a.max_iter a.order a.penalty) 0) refl
  where
    go : let x = first_no (length a.y) a.max_iter a.order a.penalty in
        (b : Bool) → eqb x 0 ≡ b → cond b (Ok (needs_for a)) (Err x) ≡ Err q → (x ≡ q) × (eqb x 0 ≡ false)
    go true z e = impossible cc
    go false z e = (cc, z)

-- 1 to 3 are asked first, before the call and in it
same_first : (kinds long short limit : Bool) (q r : ℕ) → ask 1 kinds (ask 2 long (ask 3 short (ask 7 limit 0))) ≡ q → eqb q 0 ≡ false → q ≤ 3 → ask 1 kinds (ask 2 long (ask 3 short r)) ≡ q
same_first false g s m q r e z h = e
same_first true false s m q r e z h = e
same_first true true false m q r e z h = e
same_first true true true false q r e z h = absurd (let d : 7 ≡ q = e in omega arith)
same_first true true true true q r e z h = absurd (eqb-false q 0 z (sym e))

-- 7 is asked after 4 to 6
between : (finite lam tol : Bool) (r : ℕ) → let x = ask 4 finite (ask 5 lam (ask 6 tol 7)) in (4 ≤ x) × (x ≤ 7)
between false l t r = (omega arith, omega arith)
between true false t r = (omega arith, omega arith)
between true true false r = (omega arith, omega arith)
between true true true r = (omega arith, omega arith)

limit_first : (kinds long short limit finite lam tol : Bool) (r : ℕ) → ask 1 kinds (ask 2 long (ask 3 short (ask 7 limit 0))) ≡ 7
    → let x = ask 1 kinds (ask 2 long (ask 3 short (ask 4 finite (ask 5 lam (ask 6 tol (ask 7 limit r)))))) in (4 ≤ x) × (x ≤ 7)
limit_first false g s m f l t r e = absurd (let d : 1 ≡ 7 = e in omega arith)
limit_first true false s m f l t r e = absurd (let d : 2 ≡ 7 = e in omega arith)
limit_first true true false m f l t r e = absurd (let d : 3 ≡ 7 = e in omega arith)
limit_first true true true true f l t r e = absurd (let d : zero ≡ 7 = e in omega arith)
limit_first true true true false f l t r e = between f l t r

pub foretells : (a : Asked) (l : Lent) → Foretells a l
unfolding needed question
foretells a l = record {
  given = λ e. ap (λ (q : ℕ). cond (eqb q 0) (Ok (needs_for a)) (Err q)) (first_passes a l e);
  enough = λ g e w m p.
      let h = given_same a g e in
      room-enough (length a.y) (needs_for a) l (subst (λ (x : Figures). x.work ≤ l.work) (sym h) w) (subst (λ (x : Figures). x.marks ≤ l.marks) (sym h) m) (asked_9 a l p);
  same = λ q e h.
      let w = refused_same a q e in
      same_first (kinds_known a.order a.penalty) (long_enough (length a.y) a.order) (short_enough (length a.y)) (limit_right a.max_iter) q _ w.0 (rw w.0 at w.1) h;
  limit = λ e.
      limit_first (kinds_known a.order a.penalty) (long_enough (length a.y) a.order) (short_enough (length a.y)) (limit_right a.max_iter)
      (all_finite a.y) (lam_right a.lam) (tol_right a.tol) _ (refused_same a 7 e).0;
}
