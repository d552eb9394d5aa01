-- Two calls alike but for max_iter and for the buffers agree, and what a reason tells of other limits. Assumes nothing.
use mathlib.Core.Path.{◌≡◌, refl, sym, ap, subst, ◌∙◌}
use mathlib.Core.List.{List}
use Prim.Native.Nat.{ℕ, ◌<◌}
use native.Mathlib.Omega.{arith}
use lib.ListN.{length, take}
use Rattle.std.specs.Prelude.{Result, Ok}
use Rattle.float64.proofs.Clash.{impossible}
use Rattle.vectors.specs.Vec.{put}
use Rattle.vectors.proofs.Texts.{take_put}
use Rattle.search.specs.declared.Reason.{Reason}
use Rattle.search.specs.declared.Reason.TheVariants.{LimitSpent}
use Rattle.search.specs.Reasons.{at_limit}
use Rattle.questions.specs.Questions.{Asked, Lent, needs_for, room, question}
use Rattle.fit.specs.Outputs.{Outputs}
use Rattle.fit.specs.Fit.{places, FitResult, Outcome, refused, fitted, Lengths, fit, after}
use Rattle.fit.specs.Reasons.{with_reason}
use Rattle.fit.specs.Demand3.{with_max_iter}
use Rattle.fit.proofs.Demand3 as demand
use Rattle.trend_filter.specs.declared.Summary.{Summary}
use Rattle.trend_filter.specs.Answers.{Buffers, lent, summary_of, answer_of}
use Rattle.calls.specs.Reasons.{reasoned}
use Rattle.calls.specs.Lasting.{LastingCalls}
use Rattle.calls.specs.TwoCalls.{TwoCalls, SamePlaces, Agree, Agreement, TwoCallsAgree}

-- a fit reads the lengths lent in questions 8 and 9 alone
same_lent : (a : Asked) (l k : Lent) → room (length a.y) (needs_for a) l ≡ room (length a.y) (needs_for a) k → fit a l ≡ fit a k
unfolding fit question
same_lent a l k e = rw e

-- an answer that is a fit comes from one
pub record Came (o : Outcome) (x : Summary) : Type 0 where
  pub result : FitResult
  pub is : o ≡ fitted result
  pub told : summary_of result ≡ x

pub came : (o : Outcome) (x : Summary) → answer_of o ≡ Ok x → Came o x
unfolding answer_of
came (refused q) x e = impossible cc
came (fitted f) x e = record { result = f; is = refl; told = (let h : summary_of f ≡ x = cc in h) }

knots_told : (f : FitResult) (x : Summary) → summary_of f ≡ x → length f.knots ≡ x.knots
unfolding summary_of
knots_told f x t = ap (λ (s : Summary). s.knots) t

pub steps_told : (f : FitResult) (x : Summary) → summary_of f ≡ x → f.numbers.n_iter ≡ x.n_iter
unfolding summary_of
steps_told f x t = ap (λ (s : Summary). s.n_iter) t

reason_told : (f : FitResult) (x : Summary) → summary_of f ≡ x → f.numbers.reason ≡ x.reason
unfolding summary_of
reason_told f x t = ap (λ (s : Summary). s.reason) t

-- the first places of what a fit wrote are the fit's, so they are the same in two buffers
same_first : {A : Type 0} (s s' t : List A) {u v : List A} (n : ℕ) → length t ≡ n → u ≡ put s 0 t → v ≡ put s' 0 t → take n v ≡ take n u
same_first s s' t n e p q = take_put s' t n q e ∙ sym (take_put s t n p e)

same_places_lem : (a : Asked) (f : FitResult) (b d c e : Outputs) → Lengths a f → c ≡ after (fitted f) b → e ≡ after (fitted f) d → SamePlaces (length a.y) (length f.knots) (places a) c e
unfolding after
same_places_lem a f b d c e l p q = record {
  trend = same_first b.trend d.trend f.trend (length a.y) l.trend (ap (λ (o : Outputs). o.trend) p) (ap (λ (o : Outputs). o.trend) q);
  cycle = same_first b.cycle d.cycle f.cycle (length a.y) l.cycle (ap (λ (o : Outputs). o.cycle) p) (ap (λ (o : Outputs). o.cycle) q);
  knots = same_first b.knots d.knots f.knots (length f.knots) refl (ap (λ (o : Outputs). o.knots) p) (ap (λ (o : Outputs). o.knots) q);
  dual = same_first b.dual d.dual f.dual (places a) l.dual (ap (λ (o : Outputs). o.dual) p) (ap (λ (o : Outputs). o.dual) q);
}

-- another reason: of the answer, and of what is written
told_with : (q : Reason) (f : FitResult) → answer_of (fitted (with_reason q f)) ≡ Ok (reasoned q (summary_of f))
unfolding answer_of summary_of
told_with q f = refl

after_with : (q : Reason) (f : FitResult) (b : Outputs) → after (fitted (with_reason q f)) b ≡ after (fitted f) b
unfolding after
after_with q f b = refl

fit-knots : {x y : Summary} → ◌≡◌ {A = Result Summary ℕ} (Ok x) (Ok y) → x.knots ≡ y.knots
fit-knots {x} {y} e = ap (λ (s : Summary). s.knots) (let h : x ≡ y = cc in h)

module _ (a : Asked) (other : ℕ) (r s : Result Summary ℕ) (b c d e : Buffers) (h : TwoCalls a other r s b c d e) where
  -- the first call's fit
  fits : (x : Summary) → r ≡ Ok x → Came (fit a (lent b)) x
  fits x t = came (fit a (lent b)) x (sym h.first.gives.answer ∙ t)

  -- questions 8 and 9 don't read the limit
  room_other : (l : Lent) → room (length a.y) (needs_for (with_max_iter other a)) l ≡ room (length a.y) (needs_for a) l
  unfolding room
  room_other l = refl

  same : (o : Outcome) → fit (with_max_iter other a) (lent b) ≡ o → fit (with_max_iter other a) (lent d) ≡ o
  same o q = same_lent (with_max_iter other a) (lent d) (lent b) (room_other (lent d) ∙ h.same_room ∙ sym (room_other (lent b))) ∙ q

  -- the places of two calls that write one fit
  placed : (f : FitResult) (o : Outcome) → fit a (lent b) ≡ fitted f → fit (with_max_iter other a) (lent d) ≡ o → ((v : Outputs) → after o v ≡ after (fitted f) v) → SamePlaces (length a.y) (length f.knots) (places a) c.out e.out
  placed f o p q w =
      same_places_lem a f b.out d.out c.out e.out (h.first.sizes f p)
      (h.first.gives.out ∙ ap (λ (x : Outcome). after x b.out) p) (h.second.gives.out ∙ ap (λ (x : Outcome). after x d.out) q ∙ w d.out)

  -- calls whose outcome is one
  agree : fit (with_max_iter other a) (lent b) ≡ fit a (lent b) → Agree a r s c e
  agree q = record {
    answers = h.second.gives.answer ∙ ap answer_of (same (fit a (lent b)) q) ∙ sym h.first.gives.answer;
    places = λ x t.
        let g = fits x t in
        subst (λ (k : ℕ). SamePlaces (length a.y) k (places a) c.out e.out) (knots_told g.result x g.told)
        (placed g.result (fitted g.result) g.is (same (fit a (lent b)) q ∙ g.is) (λ v. refl));
  }

  -- calls whose outcome is one but for the reason
  agree_but : (q : Reason) (x : Summary) (g : Came (fit a (lent b)) x) → fit (with_max_iter other a) (lent b) ≡ fitted (with_reason q g.result) → Agree a (Ok (reasoned q x)) s c e
  agree_but q x g w =
      let o = same (fitted (with_reason q g.result)) w in
      record {
        answers = h.second.gives.answer ∙ ap answer_of o ∙ told_with q g.result ∙ ap (λ (z : Summary). Ok (reasoned q z)) g.told;
        places = λ z t.
            subst (λ (k : ℕ). SamePlaces (length a.y) k (places a) c.out e.out) (knots_told g.result x g.told ∙ fit-knots t)
            (placed g.result (fitted (with_reason q g.result)) g.is o (after_with q g.result));
      }

  agreed : Agreement a other r s c e
  agreed = record {
    alike = λ x t low g.
        let f = fits x t in
        let n = steps_told f.result x f.told in
        agree (demand.alike a (lent b) f.result f.is (rw n low) other (rw n g) ∙ sym f.is);
    at_limit = λ x t low one g.
        let f = fits x t in
        let n = steps_told f.result x f.told in
        let q = reason_told f.result x f.told in
        agree_but (at_limit x.reason) x f
        (ap (λ (m : ℕ). fit (with_max_iter m a) (lent b)) (sym (n ∙ g))
        ∙ demand.at_limit_lem a (lent b) f.result f.is (rw n low) (omega (arith, n, g, one))
        ∙ ap (λ (z : Reason). fitted (with_reason (at_limit z) f.result)) q);
    settled = λ low high. agree (demand.settled a (lent b) other a.max_iter high low);
  }

  lasts : (x : Summary) → r ≡ Ok x → (x.reason ≡ LimitSpent → ⊥) → a.max_iter < other → Agree a r s c e
  lasts x t w g =
      let f = fits x t in
      agree (demand.other_reason a (lent b) f.result f.is (λ z. w (sym (reason_told f.result x f.told) ∙ z)) other g ∙ sym f.is)

pub agreement : TwoCallsAgree
agreement a other r s b c d e h = agreed a other r s b c d e h

pub lasting : LastingCalls
lasting = record {
  other_reason = lasts;
  spent = λ a r b c h x t q.
      let f = came (fit a (lent b)) x (sym h.gives.answer ∙ t) in
      sym (steps_told f.result x f.told) ∙ demand.spent a (lent b) f.result f.is (reason_told f.result x f.told ∙ q);
}
