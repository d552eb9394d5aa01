use borrow.Author.Rules.{rules}
use mathlib.Core.Path.{refl}
use Rattle.elimination.proofs.Orders.{eliminated_2}
use Rattle.elimination.proofs.eliminate2.Statement.{statement}
use Rattle.elimination.proofs.eliminate2.Tie as tie

returns : tie.Need-returns
returns c = let stored = c.before.before.before in
    let made = stored.before.before in
    let st = made.before.before.before.before.before.before.before.before.before.before.before in
    rw c.is_good.ensures (eliminated_2 st.requires.0 st.requires.1.row stored.store2.ensures made.next2-w.ensures refl refl refl refl refl refl refl refl refl)

pub eliminate2_spec : {M : Type 1} → statement M
eliminate2_spec =
    tie.close
    (tie.spec (λ c. search rules) (λ c. search rules) (λ c. search rules) (λ c. search rules) (λ c. search rules)
    (λ c. search rules) (λ c. search rules) (λ c. search rules) (λ c. search rules) (λ c. search rules)
    (λ c. search rules) (λ c. search rules) (λ c. search rules) (λ c. search rules) (λ c. search rules)
    (λ c. search rules) (λ c. search rules) (λ c. search rules) (λ c. search rules) (λ c. search rules)
    (λ c. search rules) (λ c. search rules) (λ c. search rules) (λ c. search rules) (λ c. search rules)
    (λ c. search rules) (λ c. search rules) (λ c. search rules) (λ c κs. search rules) (λ c κs. search rules)
    (λ c κs. search rules) (λ c. search rules) returns)
