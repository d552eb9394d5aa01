use native.Mathlib.Omega.{arith}
use Rattle.newton_system.proofs.Places.{product_place}
use borrow.Author.Rules.{rules}
use Rattle.newton_system.proofs.row_at.Statement.{statement}
use Rattle.newton_system.proofs.row_at.Tie as tie

row-with-requires : tie.Need-row_with-requires
row-with-requires c κs = let st = c.before.before.before.before in
    let a = st.args in
    (st.requires, product_place a.k a.g a.m a.s.now a.r c.product-q.ensures (omega (arith, st.requires)))

pub row_at_spec : {M : Type 1} → statement M
row_at_spec =
    tie.close
    (tie.spec (λ c. search rules) (λ c. search rules) (λ c. search rules) (λ c κs. search rules) row-with-requires
    (λ c. search rules))
