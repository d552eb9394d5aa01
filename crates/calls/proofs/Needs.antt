-- What whoever asks first is told of the call that follows. Assumes nothing.
use mathlib.Core.Path.{◌≡◌, sym, ap, subst, ◌∙◌}
use Prim.Native.Nat.{ℕ}
use native.Mathlib.Omega.{arith}
use Rattle.std.specs.Prelude.{Err}
use Rattle.float64.proofs.Clash.{impossible}
use Rattle.questions.specs.declared.Figures.{Figures}
use Rattle.questions.proofs.Beforehand.{given_same}
use Rattle.fit.specs.Fit.{Outcome, refused, fitted, fit}
use Rattle.fit.proofs.Needs.{foretold}
use Rattle.trend_filter.specs.Answers.{lent, answer_of, Scratch}
use Rattle.calls.specs.Needs.{AskedFirstKeeps}
use Rattle.calls.proofs.TwoCalls.{came, steps_told}

-- an answer that is a refusal comes from one
pub refused_came : (o : Outcome) (q : ℕ) → answer_of o ≡ Err q → o ≡ refused q
unfolding answer_of
refused_came (refused p) q e = ap refused (let h : p ≡ q = cc in h)
refused_came (fitted f) q e = impossible cc

refused_told : (o : Outcome) (q : ℕ) → o ≡ refused q → answer_of o ≡ Err q
unfolding answer_of
refused_told o q e = ap answer_of e

pub asked_first : AskedFirstKeeps
asked_first s a r b c h =
    let w = foretold a (lent b) in
    let answer = sym h.second.gives.answer in
    record {
      given = λ x t. let f = came (fit a (lent b)) x (answer ∙ t) in h.first ∙ w.given f.result f.is;
      ceiling = λ x t g e.
          let f = came (fit a (lent b)) x (answer ∙ t) in
          omega (arith, steps_told f.result x f.told, w.ceiling f.result f.is g (sym h.first ∙ e));
      enough = λ g e p q t. w.enough g (sym h.first ∙ e) p q (refused_came (fit a (lent b)) 9 (answer ∙ t));
      scratch = λ g e. subst (λ (x : Figures). Scratch x b c) (given_same a g (sym h.first ∙ e)) h.second.scratch;
      refuses = λ q e. h.second.gives.answer ∙ refused_told _ _ (w.refuses q (sym h.first ∙ e));
    }
