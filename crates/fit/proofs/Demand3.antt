-- Demand 3 holds of the fit: its search keeps it, a closed path does no iteration, and nothing else depends on the step limit.
use mathlib.Core.Path.{◌≡◌, refl, sym, ap, ◌∙◌, subst}
use Prim.Native.Nat.{ℕ, ◌≤◌, ◌<◌}
use native.Mathlib.Omega.{arith}
use mathlib.Core.Bool.{Bool, true, false, cond, ◌&&◌}
use mathlib.Core.List.{List}
use mathlib.Core.Option.{Option, none, some, some-injective}
use mathlib.Core.Logic.{◌⊎◌, inl, inr}
use lib.Dec.{T, eqb, eqb→eq}
use lib.Ieee.{Float}
use Rattle.differences.specs.Diff.{gram_row}
use Rattle.certificate.specs.Certificate.{Certificate}
use Rattle.float64.proofs.Clash.{impossible}
use Rattle.search.specs.declared.Reason.{Reason}
use Rattle.search.specs.declared.Reason.TheVariants.{ClosedPath, LimitSpent}
use Rattle.search.specs.Reasons.{at_limit}
use Rattle.search.specs.Search.{Problem, Ended}
use Rattle.search.specs.Bounds.{Bounded}
use Rattle.search.specs.Demand3 as search
use Rattle.search.specs.Looser.{finite_above0}
use Rattle.search.proofs.Demand.{demand3, never_closed, bounded_closed}
use Rattle.search.proofs.Looser.{tol_positive}
use Rattle.interior_point.specs.InteriorPoint.{State, problem, origin, interior_point}
use Rattle.l2.specs.L2.{sound_l2}
use Rattle.questions.specs.Questions.{Asked, Lent, question}
use Rattle.questions.proofs.Laws as questions
use Rattle.fit.specs.Fit.{Found, FitResult, Outcome, refused, fitted, places, closed, path_l2, path_zero, path_flat, polished, search_of, kept_of, path_end, path_l1, path, written, outcome, fit}
use Rattle.fit.specs.Ways.{lam_zero, lam_high, sound_dd}
use Rattle.fit.specs.Reasons.{numbers_with, with_reason}
use Rattle.fit.specs.Demand3.{Bounds, with_max_iter, Demand3}
use Rattle.fit.specs.Lasting.{Lasting}
use Rattle.fit.proofs.Sign.{lam_positive, primal_clear}
use Rattle.fit.proofs.Passed.{same_questions, fit_passed, outcome_some, Passed, passed, found_has}

-- ---- the search of a fit
abbrev pub problem_of : Asked → Problem State
problem_of a = problem a.order (gram_row a.order) a.y a.lam

abbrev Searches : Asked → Type 0
Searches a = search.SearchDemand3 (problem_of a) a.tol (origin (places a))

-- what questions 5 and 6 make sure of
pub tol_passed : (a : Asked) (l : Lent) → questions.Passed a l → T (finite_above0 a.tol)
tol_passed a l q = subst T (sym (λ i. q.tol_finite i && q.tol_above i)) tt

pub sign_passed : (a : Asked) (l : Lent) → questions.Passed a l → lam_zero a ≡ false → (s : State) → T (search.clear ((problem_of a).primal s))
sign_passed a l q z = primal_clear a.order (gram_row a.order) a.y a.lam (lam_positive a.lam q.lam_finite q.lam_not_below z)

searches : (a : Asked) (l : Lent) → questions.Passed a l → lam_zero a ≡ false → Searches a
searches a l q z = demand3 (problem_of a) a.tol (tol_positive a.tol (tol_passed a l q)) (sign_passed a l q z) (origin (places a))

-- ---- the numeric bounds

-- the same four bounds of what a path finds
abbrev FoundBounds : ℕ → Found → Type 0
FoundBounds max_iter f = Bounded max_iter f.numbers.n_iter f.numbers.improvements f.numbers.first_gap f.numbers.best_gap

bounded_end : (a : Asked) → Searches a → FoundBounds a.max_iter (path_end a (search_of a))
unfolding path_end search_of interior_point
bounded_end a s = s.bounded a.max_iter

found_bounds : (a : Asked) (l : Lent) (f : FitResult) (p : Passed a l f) → FoundBounds a.max_iter p.found
unfolding path_zero path_flat
found_bounds a l f p =
    let shut = bounded_closed a.max_iter in
    found_has a l f (FoundBounds a.max_iter) p
    (record { squared = λ _ gap objective. shut gap; zero = λ _. shut _; flat = λ _. shut _; searched = λ z. bounded_end a (searches a l (questions.passed a l p.asked) z) })

pub bounds : (a : Asked) (l : Lent) (f : FitResult) → fit a l ≡ fitted f → Bounds a.max_iter f
unfolding written
bounds a l f e = let p = passed a l f e in subst (Bounds a.max_iter) (sym p.made) (found_bounds a l f p)

-- ---- a spent limit
abbrev Spent : ℕ → Found → Type 0
Spent max_iter f = f.numbers.reason ≡ LimitSpent → f.numbers.n_iter ≡ max_iter

spent_end : (a : Asked) → Searches a → Spent a.max_iter (path_end a (search_of a))
unfolding path_end search_of interior_point
spent_end a s = s.spent a.max_iter

not-closed : {C : Type 0} → ◌≡◌ {A = Reason} ClosedPath LimitSpent → C
not-closed e = impossible cc

found_spent : (a : Asked) (l : Lent) (f : FitResult) (p : Passed a l f) → Spent a.max_iter p.found
unfolding path_zero path_flat
found_spent a l f p =
    found_has a l f (Spent a.max_iter) p
    (record { squared = λ _ gap objective. not-closed; zero = λ _. not-closed; flat = λ _. not-closed; searched = λ z. spent_end a (searches a l (questions.passed a l p.asked) z) })

pub spent : (a : Asked) (l : Lent) (f : FitResult) → fit a l ≡ fitted f → f.numbers.reason ≡ LimitSpent → f.numbers.n_iter ≡ a.max_iter
unfolding written
spent a l f e =
    let p = passed a l f e in
    subst (λ (x : FitResult). x.numbers.reason ≡ LimitSpent → x.numbers.n_iter ≡ a.max_iter) (sym p.made) (found_spent a l f p)

-- ---- a closed path
abbrev Closed : Asked → Found → Type 0
Closed a f = f.numbers.reason ≡ ClosedPath → (eqb a.penalty 2 ≡ true) ⊎ ((lam_zero a ≡ true) ⊎ (lam_high a ≡ true))

end_not-closed : (a : Asked) → (path_end a (search_of a)).numbers.reason ≡ ClosedPath → ⊥
unfolding path_end search_of interior_point
end_not-closed a = never_closed (problem_of a) a.tol (origin (places a)) a.max_iter

pub closed-path : (a : Asked) (l : Lent) (f : FitResult) → fit a l ≡ fitted f → f.numbers.reason ≡ ClosedPath → (eqb a.penalty 2 ≡ true) ⊎ ((lam_zero a ≡ true) ⊎ (lam_high a ≡ true))
unfolding written
closed-path a l f e r =
    let p = passed a l f e in
    found_has a l f (Closed a) p
    (record { squared = λ h gap objective _. inl h; zero = λ h _. inr (inl h); flat = λ h _. inr (inr h); searched = λ _ q. absurd (end_not-closed a q) })
    (sym (ap (λ (x : FitResult). x.numbers.reason) p.made) ∙ r)

-- ---- another limit
polished_other : (m : ℕ) (a : Asked) (c : Certificate) (z : Option (List Float)) → polished (with_max_iter m a) c z ≡ polished a c z
unfolding polished
polished_other m a c none = refl
polished_other m a c (some z) = refl

end_other : (m : ℕ) (a : Asked) (e : Ended State) → path_end (with_max_iter m a) e ≡ path_end a e
unfolding path_end kept_of
end_other m a e = rw polished_other

-- what the path finds, given where the search ended
abbrev path_with : Asked → Found → Option Found
path_with a x = cond (eqb a.penalty 2) (path_l2 a) (some (cond (lam_zero a) (path_zero a) (cond (lam_high a) (path_flat a) x)))

path_is : (a : Asked) → path a ≡ path_with a (path_end a (search_of a))
unfolding path path_l1
path_is a = refl

path_other : (n : ℕ) (a : Asked) → path (with_max_iter n a) ≡ path_with a (path_end a (search_of (with_max_iter n a)))
unfolding path path_l1 path_zero path_flat path_l2
path_other n a = ap (path_with a) (end_other n a (search_of (with_max_iter n a)))

outcome_other : (n : ℕ) (a : Asked) (o : Option Found) → outcome (with_max_iter n a) o ≡ outcome a o
unfolding outcome written
outcome_other n a none = refl
outcome_other n a (some f) = refl

-- where two searches end alike, or none is made, the same is found
same_with : (p z m : Bool) (l2 : Option Found) (o c x y : Found) → (p ≡ false → z ≡ false → m ≡ false → x ≡ y)
    → cond p l2 (some (cond z o (cond m c x))) ≡ cond p l2 (some (cond z o (cond m c y)))
same_with true z m l2 o c x y h = refl
same_with false true m l2 o c x y h = refl
same_with false false true l2 o c x y h = refl
same_with false false false l2 o c x y h = ap some (h refl refl refl)

-- how many iterations a path reports: the search's, and 0 on the other paths
abbrev pub iterations : Option Found → ℕ
iterations none = 0
iterations (some f) = f.numbers.n_iter

abbrev pub on_path : Asked → ℕ → ℕ
on_path a n = cond (eqb a.penalty 2) 0 (cond (lam_zero a) 0 (cond (lam_high a) 0 n))

l2_idle : (a : Asked) → iterations (path_l2 a) ≡ 0
unfolding path_l2
l2_idle a = go (sound_l2 a.order a.y a.lam) _ refl
  where
    go : (b : Bool) (f : Found) → f.numbers.n_iter ≡ 0 → iterations (cond b (some f) none) ≡ 0
    go true f e = e
    go false f e = refl

pub path_steps : (a : Asked) → iterations (path a) ≡ on_path a (search_of a).n_iter
unfolding path path_l1 path_zero path_flat path_end
path_steps a = go (eqb a.penalty 2) (lam_zero a) (lam_high a)
  where
    go : (p z m : Bool) → iterations (cond p (path_l2 a) (some (cond z (path_zero a) (cond m (path_flat a) (path_end a (search_of a)))))) ≡ cond p 0 (cond z 0 (cond m 0 (search_of a).n_iter))
    go true z m = l2_idle a
    go false true m = refl
    go false false true = refl
    go false false false = refl

-- where the search is made, it gives what is found
end_is : (a : Asked) (f : Found) → path a ≡ some f → eqb a.penalty 2 ≡ false → lam_zero a ≡ false → lam_high a ≡ false → path_end a (search_of a) ≡ f
end_is a f e p z m = some-injective _ _ ((λ i. cond (sym p i) (path_l2 a) (some (cond (sym z i) (path_zero a) (cond (sym m i) (path_flat a) (path_end a (search_of a)))))) ∙ sym (path_is a) ∙ e)

end_told : (a : Asked) (f : Found) → path_end a (search_of a) ≡ f → ((search_of a).n_iter ≡ f.numbers.n_iter) × ((search_of a).reason ≡ f.numbers.reason)
unfolding path_end
end_told a f e = (ap (λ (x : Found). x.numbers.n_iter) e, ap (λ (x : Found). x.numbers.reason) e)

-- the search under another limit
ends_above : (a : Asked) (other : ℕ) → Searches a → ((search_of a).reason ≡ LimitSpent → ⊥) → (search_of a).n_iter < other → search_of (with_max_iter other a) ≡ search_of a
unfolding search_of interior_point
ends_above a other s r g = s.alike a.max_iter other r g

ends_at : (a : Asked) (n : ℕ) → Searches a → (search_of a).n_iter ≡ n → n < a.max_iter → search_of (with_max_iter n a) ≡ search.retold (search_of a) (at_limit (search_of a).reason)
unfolding search_of interior_point
ends_at a n s e h =
    ap (λ (x : ℕ). search_of (with_max_iter x a)) (sym e)
    ∙ s.at_limit a.max_iter (λ q. absurd (omega (arith, s.spent a.max_iter q, e, h)))

ends_settled : (a : Asked) (one other : ℕ) → Searches a → 1447640 < one → 1447640 < other → search_of (with_max_iter one a) ≡ search_of (with_max_iter other a)
unfolding search_of interior_point
ends_settled a one other s h g = s.settled other one g h

-- another limit from 1 up: the same but for where the search ends
relimited : (a : Asked) (l : Lent) (f : FitResult) (p : Passed a l f) (other : ℕ) → 1 ≤ other → fit (with_max_iter other a) l ≡ outcome a (path_with a (path_end a (search_of (with_max_iter other a))))
relimited a l f p other one =
    fit_passed (with_max_iter other a) l (questions.same_question a l other (questions.passed a l p.asked).max_iter one ∙ p.asked)
    ∙ ap (λ (b : Bool). cond b (outcome (with_max_iter other a) (path (with_max_iter other a))) (refused 10)) p.sound
    ∙ outcome_other other a (path (with_max_iter other a))
    ∙ ap (outcome a) (path_other other a)

-- any reason but a spent limit: every limit above n_iter
above : (a : Asked) (l : Lent) (f : FitResult) → fit a l ≡ fitted f → (f.numbers.reason ≡ LimitSpent → ⊥) → (other : ℕ) → f.numbers.n_iter < other → fit (with_max_iter other a) l ≡ fitted f
unfolding written
above a l f e r other g =
    let p = passed a l f e in
    let n : p.found.numbers.n_iter < other = subst (λ (x : FitResult). x.numbers.n_iter < other) p.made g in
    let w : p.found.numbers.reason ≡ LimitSpent → ⊥ = subst (λ (x : FitResult). x.numbers.reason ≡ LimitSpent → ⊥) p.made r in
    relimited a l f p other (omega arith)
    ∙ ap (outcome a)
    (same_with (eqb a.penalty 2) (lam_zero a) (lam_high a) (path_l2 a) (path_zero a) (path_flat a) (path_end a (search_of (with_max_iter other a))) (path_end a (search_of a))
    (λ b z m.
    let t = end_told a p.found (end_is a p.found p.path_is b z m) in
    ap (path_end a) (ends_above a other (searches a l (questions.passed a l p.asked) z) (λ q. w (sym t.1 ∙ q)) (omega (arith, t.0, n))))
    ∙ sym (path_is a) ∙ p.path_is)
    ∙ outcome_some a p.found ∙ ap fitted (sym p.made)

pub alike : (a : Asked) (l : Lent) (f : FitResult) → fit a l ≡ fitted f → f.numbers.n_iter < a.max_iter → (other : ℕ) → f.numbers.n_iter < other → fit (with_max_iter other a) l ≡ fitted f
alike a l f e h = above a l f e (λ q. absurd (omega (arith, spent a l f e q, h)))

pub other_reason : (a : Asked) (l : Lent) (f : FitResult) → fit a l ≡ fitted f → (f.numbers.reason ≡ LimitSpent → ⊥) → (other : ℕ) → a.max_iter < other → fit (with_max_iter other a) l ≡ fitted f
other_reason a l f e r other g = above a l f e r other (omega (arith, (bounds a l f e).limit, g))

-- ---- the limit n_iter itself
abbrev found_with : Reason → Found → Found
found_with r f = record { trend = f.trend; dual = f.dual; numbers = numbers_with r f.numbers }

end_retold : (a : Asked) (e : Ended State) (r : Reason) → path_end a (search.retold e r) ≡ found_with r (path_end a e)
unfolding path_end kept_of
end_retold a e r = refl

written_with : (a : Asked) (f : Found) (r : Reason) → written a (found_with r f) ≡ with_reason r (written a f)
unfolding written
written_with a f r = refl

-- a path with an iteration is the search's
only_search : (a : Asked) (n : ℕ) → 1 ≤ on_path a n → (x w : Found) → (eqb a.penalty 2 ≡ false → lam_zero a ≡ false → lam_high a ≡ false → x ≡ w) → path_with a x ≡ some w
only_search a n h x w k = go (eqb a.penalty 2) (lam_zero a) (lam_high a) h k
  where
    go : (p z m : Bool) → 1 ≤ cond p 0 (cond z 0 (cond m 0 n)) → (p ≡ false → z ≡ false → m ≡ false → x ≡ w) → cond p (path_l2 a) (some (cond z (path_zero a) (cond m (path_flat a) x))) ≡ some w
    go true z m h k = absurd (omega arith)
    go false true m h k = absurd (omega arith)
    go false false true h k = absurd (omega arith)
    go false false false h k = ap some (k refl refl refl)

pub at_limit_lem : (a : Asked) (l : Lent) (f : FitResult) → fit a l ≡ fitted f → f.numbers.n_iter < a.max_iter → 1 ≤ f.numbers.n_iter
    → fit (with_max_iter f.numbers.n_iter a) l ≡ fitted (with_reason (at_limit f.numbers.reason) f)
unfolding written
at_limit_lem a l f e h one =
    let p = passed a l f e in
    let x = p.found in
    let n : f.numbers.n_iter ≡ x.numbers.n_iter = ap (λ (y : FitResult). y.numbers.n_iter) p.made in
    relimited a l f p f.numbers.n_iter one
    ∙ ap (outcome a)
    (only_search a (search_of a).n_iter (omega (arith, one, n, sym (path_steps a) ∙ ap iterations p.path_is)) (path_end a (search_of (with_max_iter f.numbers.n_iter a))) (found_with (at_limit x.numbers.reason) x)
    (λ b z m.
    let s = end_is a x p.path_is b z m in
    let t = end_told a x s in
    ap (path_end a) (ends_at a f.numbers.n_iter (searches a l (questions.passed a l p.asked) z) (t.0 ∙ sym n) h)
    ∙ end_retold a (search_of a) (at_limit (search_of a).reason)
    ∙ λ i. found_with (at_limit (t.1 i)) (s i)))
    ∙ outcome_some a (found_with (at_limit x.numbers.reason) x)
    ∙ ap fitted (written_with a x (at_limit x.numbers.reason) ∙ sym (ap (λ (y : FitResult). with_reason (at_limit y.numbers.reason) y) p.made))

-- any two limits above 1,447,640
from_high : (m : ℕ) → 1447640 < m → 1 ≤ m
from_high m h = omega arith

same_high : (a : Asked) (l : Lent) (one other : ℕ) → 1447640 < one → 1447640 < other → question (with_max_iter one a) l ≡ 0
    → outcome (with_max_iter one a) (path (with_max_iter one a)) ≡ outcome (with_max_iter other a) (path (with_max_iter other a))
same_high a l one other h g e =
    let q = questions.passed (with_max_iter one a) l e in
    outcome_other one a (path (with_max_iter one a))
    ∙ ap (outcome a)
    (path_other one a
    ∙ same_with (eqb a.penalty 2) (lam_zero a) (lam_high a) (path_l2 a) (path_zero a) (path_flat a) (path_end a (search_of (with_max_iter one a))) (path_end a (search_of (with_max_iter other a)))
    (λ b z m. ap (path_end a) (ends_settled a one other (searches (with_max_iter one a) l q z) h g))
    ∙ sym (path_other other a))
    ∙ sym (outcome_other other a (path (with_max_iter other a)))

pub settled : (a : Asked) (l : Lent) (one other : ℕ) → 1447640 < one → 1447640 < other → fit (with_max_iter one a) l ≡ fit (with_max_iter other a) l
unfolding fit
settled a l one other h g =
    go (eqb (question (with_max_iter one a) l) 0) (eqb→eq (question (with_max_iter one a) l) 0)
    ∙ ap (λ (q : ℕ). cond (eqb q 0) (cond (sound_dd a) (outcome (with_max_iter other a) (path (with_max_iter other a))) (refused 10)) (refused q)) (same_questions a l one other (from_high one h) (from_high other g))
  where
    go : (b : Bool) → (T b → question (with_max_iter one a) l ≡ 0)
        → cond b (cond (sound_dd a) (outcome (with_max_iter one a) (path (with_max_iter one a))) (refused 10)) (refused (question (with_max_iter one a) l))
        ≡ cond b (cond (sound_dd a) (outcome (with_max_iter other a) (path (with_max_iter other a))) (refused 10)) (refused (question (with_max_iter one a) l))
    go true k = ap (λ (x : Outcome). cond (sound_dd a) x (refused 10)) (same_high a l one other h g (k tt))
    go false k = refl

-- ---- the demand
pub whole : (a : Asked) (l : Lent) → Demand3 a l
whole a l = record { bounds = bounds a l; alike = alike a l; at_limit = at_limit_lem a l; settled = settled a l }

pub lasting : (a : Asked) (l : Lent) → Lasting a l
lasting a l = record { other_reason = other_reason a l; spent = spent a l; closed = closed-path a l }
