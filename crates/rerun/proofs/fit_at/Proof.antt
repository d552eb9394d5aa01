use mathlib.Core.Path.{ap, ◌∙◌}
use Prim.Native.Nat.{ℕ}
use lib.Ieee.{binary64, of_bits}
use borrow.Author.Rules.{rules}
use Rattle.questions.specs.Questions.{Lent}
use Rattle.questions.specs.Asking.{asking}
use Rattle.fit.specs.Fit.{fit}
use Rattle.compared.specs.Outcomes.{same_outcome}
use Rattle.rerun.proofs.Cases.{lending_is, first_long}
use Rattle.rerun.proofs.fit_at.Statement.{statement}
use Rattle.rerun.proofs.fit_at.Tie as tie

returns : tie.Need-returns
returns c = let f = c.before.before.before.before.before.before in
    let g = f.before.before.before.before.before.before.before.before in
    let a = g.args in
    let o = a.opts in
    let w = g.requires.0 in
    f.same_outcome.ensures.same
    ∙ ap (λ (x : Lent). same_outcome (fit (asking a.y.now a.lam o.tol o.max_iter o.order o.penalty) x) a.s.now a.a) (lending_is a.l (first_long (of_bits binary64 0) 168 a.l.trend w.trend_in) (first_long (of_bits binary64 0) 168 a.l.cycle w.cycle_in) (first_long {A = ℕ} 0 168 a.l.knots w.knots_in) (first_long (of_bits binary64 0) 168 a.l.dual w.dual_in) (first_long (of_bits binary64 0) 6720 a.l.work w.work_in) (first_long {A = ℕ} 0 336 a.l.marks w.marks_in))

pub fit_at_spec : {M : Type 1} → statement M
fit_at_spec =
    tie.close
    (tie.spec (λ c. search rules) (λ c. search rules) (λ c. search rules) (λ c. search rules) (λ c. search rules)
    (λ c. search rules) (λ c. search rules) (λ c. search rules) (λ c. search rules) (λ c. search rules)
    (λ c. search rules) (λ c. search rules) (λ c. search rules) (λ c. search rules) (λ c. search rules)
    (λ c. search rules) (λ c. search rules) (λ c. search rules) (λ c κs. search rules) returns)
