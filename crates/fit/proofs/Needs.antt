-- What whoever asks first is told of a fit. Assumes nothing.
use mathlib.Core.Path.{◌≡◌, refl, sym, ap, ◌∙◌}
use Prim.Native.Nat.{ℕ, ◌≤◌, min}
use native.Mathlib.Omega.{arith}
use mathlib.Core.Bool.{Bool, true, false, cond}
use lib.Dec.{eqb}
use borrow.Author.Tests.{ne_eqb}
use Rattle.float64.proofs.Clash.{impossible}
use Rattle.questions.specs.declared.Figures.{Figures}
use Rattle.std.specs.Prelude.{Ok, Err}
use Rattle.questions.specs.Questions.{Asked, Lent, needs_for, question}
use Rattle.questions.proofs.Beforehand.{given_same, foretells}
use Rattle.fit.specs.Fit.{FitResult, refused, fitted, fit}
use Rattle.fit.specs.Needs.{Foretold}
use Rattle.fit.proofs.Passed.{passed, fit_refused, refused_by}
use Rattle.fit.proofs.Demand3.{bounds}
use Rattle.fit.proofs.Looser.{steps}

-- L2 takes no step, and L1 no more than demand 3 allows
within : (a : Asked) (l : Lent) (f : FitResult) → fit a l ≡ fitted f → f.numbers.n_iter ≤ (needs_for a).steps
within a l f e = go (eqb a.penalty 2) _ (steps a l f e)
  where
    go : (p : Bool) (x : ℕ) → f.numbers.n_iter ≡ cond p 0 x → f.numbers.n_iter ≤ cond p 0 (min a.max_iter 1447640)
    go true x h = omega arith
    go false x h = let b = bounds a l f e in omega (arith, b.limit, b.ten, b.few)

-- figures are no refusal
given_refused : {g : Figures} {q : ℕ} → Ok g ≡ Err q → ⊥
given_refused e = impossible cc

-- a fit that doesn't pass the questions is refused by the first answered no
not_passed : (a : Asked) (l : Lent) → (question a l ≡ 0 → ⊥) → fit a l ≡ refused (question a l)
not_passed a l n = fit_refused a l (question a l) refl (ne_eqb (question a l) 0 n)

pub foretold : (a : Asked) (l : Lent) → Foretold a l
foretold a l = record {
  given = λ f e. (foretells a l).given (passed a l f e).asked;
  ceiling = λ f e g h. omega (arith, within a l f e, ap (λ (x : Figures). x.steps) (given_same a g h));
  refuses = λ q h. not_passed a l (λ z. given_refused (sym ((foretells a l).given z) ∙ h));
  enough = λ g h w m e. (foretells a l).enough g h w m (refused_by a l 9 (omega arith) e).0;
}
