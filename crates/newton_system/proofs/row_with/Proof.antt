use mathlib.Core.Path.{refl, ◌∙◌}
use native.Mathlib.Omega.{arith}
use Rattle.newton_system.proofs.Places.{square_place, system_diagonal, rhs_place}
use borrow.Author.Rules.{rules}
use Rattle.newton_system.proofs.row_with.Statement.{statement}
use Rattle.newton_system.proofs.row_with.Tie as tie

returns : tie.Need-returns
returns c = let side = c.before in
    let diagonal = side.before in
    let st = diagonal.before.before.before.before.before.before.before in
    let a = st.args in
    let s = a.s.now in
    let h = st.requires.0.row in
    let q-is = st.requires.1 in
    record {
      diagonal = diagonal.diagonal_of-diagonal.ensures ∙ system_diagonal a.k a.g a.lam a.m s a.r _ h refl;
      side = side.rhs_of-right.ensures _ _ ∙ rhs_place a.k a.g a.dy.now a.lam a.inv_t a.m s a.r a.q h q-is;
      square = c.residual_of-square.ensures ∙ square_place a.k a.g a.dy.now a.lam a.inv_t 0 a.m s a.r a.r _ _ a.q h (omega arith) (omega arith) (omega arith) q-is;
    }

pub row_with_spec : {M : Type 1} → statement M
row_with_spec =
    tie.close
    (tie.spec (λ c. search rules) (λ c. search rules) (λ c. search rules) (λ c. search rules) (λ c. search rules)
    (λ c. search rules) (λ c. search rules) (λ c. search rules) (λ c. search rules) (λ c. search rules)
    (λ c. search rules) (λ c. search rules) (λ c κs. search rules) (λ c κs. search rules) (λ c κs. search rules)
    returns)
