use borrow.Author.Rules.{rules}
use mathlib.Core.Path.{refl}
use Rattle.elimination.proofs.Orders.{eliminated_1}
use Rattle.elimination.proofs.eliminate1.Statement.{statement}
use Rattle.elimination.proofs.eliminate1.Tie as tie

returns : tie.Need-returns
returns c = let stored = c.before.before.before in
    let made = stored.before.before in
    let st = made.before.before.before.before.before.before.before in
    rw c.is_good.ensures (eliminated_1 st.requires.0 st.requires.1.row stored.store1.ensures made.next1-w.ensures refl refl refl refl refl)

pub eliminate1_spec : {M : Type 1} → statement M
eliminate1_spec =
    tie.close
    (tie.spec (λ c. search rules) (λ c. search rules) (λ c. search rules) (λ c. search rules) (λ c. search rules)
    (λ c. search rules) (λ c. search rules) (λ c. search rules) (λ c. search rules) (λ c. search rules)
    (λ c. search rules) (λ c. search rules) (λ c. search rules) (λ c. search rules) (λ c. search rules)
    (λ c. search rules) (λ c κs. search rules) (λ c κs. search rules) (λ c κs. search rules) (λ c. search rules)
    returns)
