-- How long the lists of a fit are: trend and cycle have a place for each of y, the dual point one for each of the n - k differences, and a knot is one of these; and that the knots rise.
use mathlib.Core.Path.{◌≡◌, refl, sym, ap, ◌∙◌, subst}
use Prim.Native.Nat.{ℕ, ◌-◌, ◌≤◌}
use native.Mathlib.Nat.{le_trans, le_of_eq}
use mathlib.Core.Bool.{Bool, true, false, cond}
use mathlib.Core.List.{List}
use mathlib.Core.Option.{Option, none, some}
use lib.ListN.{length}
use lib.Ieee.{Float}
use Rattle.vectors.specs.Vec.{list}
use Rattle.vectors.proofs.Laws.{length-list}
use Rattle.differences.specs.Diff.{diff_k, gram_row}
use Rattle.differences.proofs.Laws.{length-diff_k}
use Rattle.banded.specs.Rows.{sound}
use Rattle.banded.specs.Solve.{forward, divided, solve}
use Rattle.banded.proofs.Forward.{length-forward}
use Rattle.substitution.proofs.Laws.{length-divided, length_back}
use Rattle.certificate.specs.Certificate.{Certificate, certify}
use Rattle.certificate.proofs.Laws.{length-minus, length-clamped}
use Rattle.vectors.specs.Rising.{Rising}
use Rattle.vectors.proofs.Rising.{rising_within}
use Rattle.vectors.proofs.Places.{places_few, places_rising}
use Rattle.decomposition.specs.Knots.{knots}
use Rattle.gram.specs.Gram.{zstar}
use Rattle.dual_point.specs.Dual.{Dual}
use Rattle.interior_point.proofs.Lengths.{search_length}
use Rattle.active_set.specs.ActiveSet.{hold_at, free_to, compressed, solved}
use Rattle.polish.specs.Polish.{candidate_at, candidate, polish}
use Rattle.l2.specs.L2.{trend_l2}
use Rattle.l2.proofs.Scaled.{length-scaled}
use Rattle.questions.specs.Questions.{Asked, Lent}
use Rattle.fit.specs.Fit.{Found, FitResult, Lengths, fitted, places, certificate_at, path_zero, path_flat, replaces, polished, search_of, kept_of, path_end, written, fit}
use Rattle.fit.specs.KnotPlaces.{KnotPlaces}
use Rattle.fit.proofs.Passed.{Over, over_cond, found_l2, Passed, passed, found_has}

-- ---- of the parts
pub length-solve : (k : ℕ) (f : List (List Float)) (b : List Float) → length (solve k f b) ≡ length b
unfolding solve
length-solve k f b =
    let u = forward k f b (length b) in
    let w = divided k f u in
    length_back k f w (length w) ∙ length-divided k f u ∙ length-forward k f b (length b)

pub length-knots : (k : ℕ) (y d : List Float) → length (knots k y d) ≤ length d
unfolding knots
length-knots k y d = places_few _ (length d)

pub length-zstar : (a : Asked) → length (zstar a.order (gram_row a.order) (places a) a.y) ≡ places a
unfolding zstar
length-zstar a = length-solve a.order _ (diff_k a.order a.y) ∙ length-diff_k a.order a.y

search_spans : (a : Asked) → length (search_of a).state.point.z ≡ places a
unfolding search_of
search_spans a = search_length a.order (gram_row a.order) a.y a.lam (places a) a.tol a.max_iter

candidate_has : (k : ℕ) (g dy : List Float) (lam : Float) (p : Dual) (P : List Float → Type 0) → ((z : List Float) → length z ≡ length p.z → P z) → Over P (polish k g dy lam p)
unfolding polish candidate
candidate_has k g dy lam p P q =
    let m = length p.z in
    let h = hold_at lam p in
    let f = free_to h m in
    let z = list m (candidate_at lam h (solved k g dy lam h m)) in
    over_cond P (sound k (compressed k g f) (length f)) z (q z (length-list m _))

-- ---- what holds of the certificate at every point of m places holds of the one that is kept
polished_has : (a : Asked) (P : Certificate → Type 0) (c : Certificate) (o : Option (List Float)) → P c → Over (λ z. P (certificate_at a z)) o → P (polished a c o)
unfolding polished
polished_has a P c none h k = h
polished_has a P c (some z) h k = go (replaces (certificate_at a z) c)
  where
    go : (b : Bool) → P (cond b (certificate_at a z) c)
    go true = k
    go false = h

pub kept_has : (a : Asked) (P : Certificate → Type 0) → ((z : List Float) → length z ≡ places a → P (certificate_at a z)) → P (kept_of a (search_of a))
unfolding kept_of
kept_has a P h =
    let k = a.order in
    let p = (search_of a).state.point in
    let e = search_spans a in
    polished_has a P _ _ (h p.z e) (candidate_has k (gram_row k) (diff_k k a.y) a.lam p (λ z. P (certificate_at a z)) (λ z s. h z (s ∙ e)))

-- ---- of a certificate
abbrev Spanned : Asked → List Float → List Float → Type 0
Spanned a x d = (length x ≡ length a.y) × (length d ≡ places a)

certified : (a : Asked) (z : List Float) → length z ≡ places a → Spanned a (certificate_at a z).trend (certificate_at a z).zc
unfolding certify
certified a z h = (length-minus a.y _, length-clamped a.lam z ∙ h)

-- ---- of what each path finds
abbrev Spans : Asked → Found → Type 0
Spans a f = Spanned a f.trend f.dual

end_spans : (a : Asked) → Spans a (path_end a (search_of a))
unfolding path_end
end_spans a = kept_has a (λ c. Spanned a c.trend c.zc) (certified a)

l2_spans : (a : Asked) (gap objective : Float) → Spans a (found_l2 a gap objective)
unfolding trend_l2
l2_spans a gap objective =
    let e = length-solve a.order _ a.y in
    (e, length-scaled a.lam a.order _ ∙ ap (λ (n : ℕ). n - a.order) e)

found_spans : (a : Asked) (l : Lent) (f : FitResult) (p : Passed a l f) → Spans a p.found
unfolding path_zero path_flat
found_spans a l f p =
    found_has a l f (Spans a) p
    (record { squared = λ _. l2_spans a; zero = λ _. (refl, length-list (places a) _); flat = λ _. certified a _ (length-zstar a); searched = λ _. end_spans a })

pub lengths : (a : Asked) (l : Lent) (f : FitResult) → fit a l ≡ fitted f → Lengths a f
unfolding written
lengths a l f e =
    let p = passed a l f e in
    let x = p.found.trend in
    let s = found_spans a l f p in
    let d = length-diff_k a.order x ∙ ap (λ (n : ℕ). n - a.order) s.0 in
    subst (Lengths a) (sym p.made)
    (record { trend = s.0; cycle = length-minus a.y x; knots = le_trans (length-knots a.order a.y (diff_k a.order x)) (le_of_eq d); dual = s.1 })

-- ---- where the knots lie
pub knot_places : (a : Asked) (l : Lent) → KnotPlaces a l
unfolding written knots
knot_places a l f e =
    let p = passed a l f e in
    let x = p.found.trend in
    let d : length (diff_k a.order x) ≡ length a.y - a.order = length-diff_k a.order x ∙ ap (λ (n : ℕ). n - a.order) (found_spans a l f p).0 in
    subst (λ (g : FitResult). Rising (places a) g.knots) (sym p.made) (rising_within (places_rising _ (length (diff_k a.order x))) (le_of_eq d))
