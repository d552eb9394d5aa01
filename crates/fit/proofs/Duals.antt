-- The dual point of a fit: for L1 it is 0 at each place, or the clamped point of the certificate that is kept, so it lies within ±lam; and the gap is the objective less G there. Assumes nothing.
use mathlib.Core.Path.{◌≡◌, refl, sym, subst}
use mathlib.Core.Logic.{inr}
use mathlib.Core.Bool.{Bool, true, false, cond}
use mathlib.Core.List.{List}
use mathlib.Core.Option.{none, some}
use Prim.Native.Nat.{ℕ, ◌<◌}
use native.Mathlib.Omega.{arith}
use borrow.Author.Tests.{eqb-true, eq-eqb}
use lib.ListN.{length}
use lib.Ieee.{Float, lt}
use Rattle.float64.specs.Ops.{◌⊖◌, c0}
use Rattle.float64.proofs.Clash.{clash, impossible}
use Rattle.float64.proofs.Order.{zero_between, clamp_between}
use Rattle.vectors.specs.Vec.{at}
use Rattle.vectors.proofs.Laws.{at-list}
use Rattle.differences.specs.Diff.{diff_k}
use Rattle.certificate.specs.Certificate.{dual_value, certify, gap_of}
use Rattle.certificate.proofs.Laws.{at-clamped}
use Rattle.l2.specs.L2.{sound_l2, dual_l2, gap_l2}
use Rattle.questions.specs.Questions.{Asked, Lent}
use Rattle.questions.proofs.Laws as questions
use Rattle.fit.specs.Fit.{Found, FitResult, places, certificate_at, path_l2, path_zero, path_flat, search_of, path_end, path, written, fit}
use Rattle.fit.specs.Ways.{lam_zero}
use Rattle.fit.specs.Duals.{InBox, Rechecks, DualPoint}
use Rattle.fit.proofs.Passed.{Passed, passed, found_has}
use Rattle.fit.proofs.Lengths.{length-zstar, kept_has}

-- ---- L1: what a dual point d tells of a gap and P
record Clamped (a : Asked) (d : List Float) (gap objective : Float) : Type 0 where
  inside : (i : ℕ) → i < places a → InBox a.lam (at d i)
  same_gap : lam_zero a ≡ false → gap ≡ objective ⊖ dual_value a.order (diff_k a.order a.y) d

-- ---- of a certificate
certified : (a : Asked) (l : Lent) → questions.Passed a l → (z : List Float) → length z ≡ places a → Clamped a (certificate_at a z).zc (gap_of (certificate_at a z)) (certificate_at a z).primal
unfolding certify
certified a l q z s = record {
  inside = λ i h. subst (InBox a.lam) (sym (at-clamped a.lam z i (omega arith))) (clamp_between (at z i) a.lam q.lam_finite q.lam_not_below);
  same_gap = λ _. refl;
}

-- ---- of what each path finds
abbrev Dual : Asked → Found → Type 0
Dual a f = a.penalty ≡ 1 → Clamped a f.dual f.numbers.gap f.numbers.objective

zero_dual : (a : Asked) (l : Lent) → questions.Passed a l → lam_zero a ≡ true → Dual a (path_zero a)
unfolding path_zero
zero_dual a l q z _ = record {
  inside = λ i h. subst (InBox a.lam) (sym (at-list (places a) (λ i. c0) i h)) (inr (zero_between a.lam q.lam_finite q.lam_not_below));
  same_gap = λ n. absurd (clash z n);
}

end_dual : (a : Asked) (l : Lent) → questions.Passed a l → Dual a (path_end a (search_of a))
unfolding path_end
end_dual a l q _ = kept_has a (λ c. Clamped a c.zc (gap_of c) c.primal) (certified a l q)

found_dual : (a : Asked) (l : Lent) (f : FitResult) (p : Passed a l f) → Dual a p.found
unfolding path_flat
found_dual a l f p =
    let q = questions.passed a l p.asked in
    found_has a l f (Dual a) p
    (record {
      squared = λ b gap objective o. let t = eqb-true a.penalty 2 b in absurd (omega arith);
      zero = zero_dual a l q;
      flat = λ _ _. certified a l q _ (length-zstar a);
      searched = λ _. end_dual a l q;
    })

-- ---- L2
found-gap : (a : Asked) (g : Found) → path a ≡ some g → a.penalty ≡ 2 → lt c0 a.lam ≡ true → g.numbers.gap ≡ g.numbers.objective ⊖ dual_l2 a.order a.y a.lam g.dual
unfolding path path_l2 gap_l2
found-gap a g e o z = go (sound_l2 a.order a.y a.lam) _ (rw (eq-eqb a.penalty 2 o) at e) (rw z)
  where
    go : (b : Bool) (x : Found) → cond b (some x) none ≡ some g → x.numbers.gap ≡ x.numbers.objective ⊖ dual_l2 a.order a.y a.lam x.dual
        → g.numbers.gap ≡ g.numbers.objective ⊖ dual_l2 a.order a.y a.lam g.dual
    go true x h q = let same : x ≡ g = cc in subst (λ (f : Found). f.numbers.gap ≡ f.numbers.objective ⊖ dual_l2 a.order a.y a.lam f.dual) same q
    go false x h q = impossible cc

-- ---- both
pub dual_point : (a : Asked) (l : Lent) → DualPoint a l
unfolding written
dual_point a l f e =
    let p = passed a l f e in
    subst (λ (x : FitResult). Rechecks a x.dual x.numbers.gap x.numbers.objective) (sym p.made)
    (record { inside = λ o. (found_dual a l f p o).inside; gap_l1 = λ o. (found_dual a l f p o).same_gap; gap_l2 = found-gap a p.found p.path_is })
