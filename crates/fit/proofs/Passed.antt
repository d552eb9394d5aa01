-- How a fit comes about from the questions and the paths, and which limits and sizes they tell apart.
use mathlib.Core.Path.{◌≡◌, refl, sym, ap, ◌∙◌, subst}
use Prim.Native.Nat.{ℕ, ◌≤◌, ◌<◌}
use native.Mathlib.Omega.{arith}
use mathlib.Core.Bool.{Bool, true, false, cond}
use mathlib.Core.Option.{Option, none, some}
use lib.Dec.{T, eqb, eqb→eq}
use lib.ListN.{length}
use lib.Ieee.{Float}
use Rattle.differences.specs.Diff.{diff_k}
use Rattle.l2.specs.L2.{sound_l2, trend_l2, scaled}
use Rattle.questions.specs.Questions.{Asked, Lent, one_or_two, question}
use Rattle.questions.proofs.Laws.{same_question, too_long, not_too_long}
use Rattle.fit.specs.Fit.{FitResult, Outcome, refused, fitted, Found, closed, path_l2, path_zero, path_flat, search_of, path_end, path_l1, path, written, outcome, fit}
use Rattle.fit.specs.Ways.{lam_zero, lam_high, sound_dd}
use Rattle.fit.specs.Demand3.{with_max_iter}

pub on : (b : Bool) → T b → b ≡ true
on true t = refl
on false t = absurd t

-- the questions do not tell two limits from 1 up apart
pub same_questions : (a : Asked) (l : Lent) (m n : ℕ) → 1 ≤ m → 1 ≤ n → question (with_max_iter m a) l ≡ question (with_max_iter n a) l
same_questions a l m n h k = same_question (with_max_iter n a) l m k h

-- ---- how a fit comes about
abbrev is_fit : Outcome → Type 0
is_fit (refused n) = T false
is_fit (fitted f) = T true

pub not_refused : {n : ℕ} {f : FitResult} → refused n ≡ fitted f → ⊥
not_refused e = subst is_fit (sym e) tt

abbrev fit_of : FitResult → Outcome → FitResult
fit_of d (refused n) = d
fit_of d (fitted f) = f

pub fitted_same : {f g : FitResult} → fitted f ≡ fitted g → f ≡ g
fitted_same {f} {g} e = ap (fit_of f) e

-- from the questions answered
pub fit_passed : (a : Asked) (l : Lent) → question a l ≡ 0 → fit a l ≡ cond (sound_dd a) (outcome a (path a)) (refused 10)
unfolding fit
fit_passed a l e = ap (λ (q : ℕ). cond (eqb q 0) (cond (sound_dd a) (outcome a (path a)) (refused 10)) (refused q)) e

pub fit_refused : (a : Asked) (l : Lent) (q : ℕ) → question a l ≡ q → eqb q 0 ≡ false → fit a l ≡ refused q
unfolding fit
fit_refused a l q e h = ap (λ (x : ℕ). cond (eqb x 0) (cond (sound_dd a) (outcome a (path a)) (refused 10)) (refused x)) e ∙ ap (λ (b : Bool). cond b (cond (sound_dd a) (outcome a (path a)) (refused 10)) (refused q)) h

-- any series of 65,537 places or more is refused with 3, where order and penalty are right
pub size_refused : (a : Asked) (l : Lent) → one_or_two a.order ≡ true → one_or_two a.penalty ≡ true → 65536 < length a.y → fit a l ≡ refused 3
size_refused a l o p h = fit_refused a l 3 (too_long a l o p h) refl

-- and no series of at most 65,536 is
abbrev refusal : Outcome → ℕ
refusal (refused n) = n
refusal (fitted f) = 0

not_10 : (q : ℕ) → q < 10 → refused 10 ≡ refused q → ⊥
not_10 q h e = let d : 10 ≡ q = ap refusal e in omega arith

-- a refusal with a number below 10 comes from that question, so it is not 0
pub refused_by : (a : Asked) (l : Lent) (q : ℕ) → q < 10 → fit a l ≡ refused q → (question a l ≡ q) × (eqb q 0 ≡ false)
unfolding fit outcome
refused_by a l q h = go (eqb (question a l) 0) refl (sound_dd a) (path a)
  where
    go : (b : Bool) → eqb (question a l) 0 ≡ b → (c : Bool) (o : Option Found) → cond b (cond c (outcome a o) (refused 10)) (refused (question a l)) ≡ refused q → (question a l ≡ q) × (eqb q 0 ≡ false)
    go true z true none e = absurd (not_10 q h e)
    go true z true (some f) e = absurd (not_refused (sym e))
    go true z false o e = absurd (not_10 q h e)
    go false z c o e = let p : question a l ≡ q = ap refusal e in (p, rw p at z)

pub size_passes : (a : Asked) (l : Lent) → length a.y ≤ 65536 → fit a l ≡ refused 3 → ⊥
size_passes a l h e = not_too_long a l h (refused_by a l 3 (omega arith) e).0

pub outcome_some : (a : Asked) (f : Found) → outcome a (some f) ≡ fitted (written a f)
unfolding outcome
outcome_some a f = refl

pub record Passed (a : Asked) (l : Lent) (f : FitResult) : Type 0 where
  pub asked : question a l ≡ 0
  pub sound : sound_dd a ≡ true
  pub found : Found
  pub path_is : path a ≡ some found
  pub made : f ≡ written a found

pub passed : (a : Asked) (l : Lent) (f : FitResult) → fit a l ≡ fitted f → Passed a l f
unfolding fit outcome
passed a l f e = go (eqb (question a l) 0) (sound_dd a) (path a) (eqb→eq (question a l) 0) refl refl e
  where
    go : (b c : Bool) (o : Option Found) → (T b → question a l ≡ 0) → sound_dd a ≡ c → path a ≡ o
        → cond b (cond c (outcome a o) (refused 10)) (refused (question a l)) ≡ fitted f → Passed a l f
    go true true (some x) h s r q = record { asked = h tt; sound = s; found = x; path_is = r; made = sym (fitted_same q) }
    go true true none h s r q = absurd (not_refused q)
    go true false o h s r q = absurd (not_refused q)
    go false c o h s r q = absurd (not_refused q)

-- ---- P of what there is, if anything
abbrev pub Over : {A : Type 0} → (A → Type 0) → Option A → Type 0
Over P none = T true
Over P (some x) = P x

pub over_cond : {A : Type 0} (P : A → Type 0) (b : Bool) (x : A) → P x → Over P (cond b (some x) none)
over_cond P true x h = h
over_cond P false x h = tt

-- ---- what holds of every path

-- what L2 finds, whatever its gap and its objective
abbrev pub found_l2 : Asked → Float → Float → Found
found_l2 a gap objective = let x = trend_l2 a.order a.y a.lam in record { trend = x; dual = scaled a.lam (diff_k a.order x); numbers = closed gap objective }

over_l2 : (a : Asked) (P : Found → Type 0) → ((gap objective : Float) → P (found_l2 a gap objective)) → Over P (path_l2 a)
unfolding path_l2
over_l2 a P h = over_cond P (sound_l2 a.order a.y a.lam) _ (h _ _)

-- P of what each path finds, where that path is taken
pub record EachPath (a : Asked) (P : Found → Type 0) : Type 0 where
  pub squared : eqb a.penalty 2 ≡ true → (gap objective : Float) → P (found_l2 a gap objective)
  pub zero : lam_zero a ≡ true → P (path_zero a)
  pub flat : lam_high a ≡ true → P (path_flat a)
  pub searched : lam_zero a ≡ false → P (path_end a (search_of a))

over_path : (a : Asked) (P : Found → Type 0) → EachPath a P → Over P (path a)
unfolding path path_l1
over_path a P h = go (eqb a.penalty 2) refl (lam_zero a) refl (lam_high a) refl
  where
    go : (p : Bool) → eqb a.penalty 2 ≡ p → (z : Bool) → lam_zero a ≡ z → (m : Bool) → lam_high a ≡ m → Over P (cond p (path_l2 a) (some (cond z (path_zero a) (cond m (path_flat a) (path_end a (search_of a))))))
    go true b z e m d = over_l2 a P (h.squared b)
    go false b true e m d = h.zero e
    go false b false e true d = h.flat d
    go false b false e false d = h.searched e

-- so of what a fit found
pub found_has : (a : Asked) (l : Lent) (f : FitResult) (P : Found → Type 0) (p : Passed a l f) → EachPath a P → P p.found
found_has a l f P p h = subst (Over P) p.path_is (over_path a P h)
