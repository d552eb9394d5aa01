use borrow.Author.Rules.{rules}
use mathlib.Core.Path.{refl, ap, ◌∙◌}
use native.Mathlib.Omega.{arith}
use Rattle.banded.specs.Rows.{good}
use Rattle.banded.proofs.Laws.{within, row_fits}
use Rattle.elimination.proofs.Elimination.{eliminated_any}
use Rattle.elimination.proofs.eliminate_any.Statement.{statement}
use Rattle.elimination.proofs.eliminate_any.Tie as tie

factor-row-requires : tie.Need-factor_row-requires
factor-row-requires c κs = row_fits c.before.before.requires

add-get : tie.Need-overflow_add-k
add-get c = let made = c.before.before.before in
    omega (arith, row_fits made.before.before.requires)

get-requires : tie.Need-get-d-requires
get-requires c κs = let made = c.before.before in
    let st = made.before.before.before in
    let a = st.args in
    let size = made.factor_row.auto.s in
    within a.k a.r a.r a.k _ (omega (arith, row_fits st.requires)) (omega arith) (omega arith)

add-b : tie.Need-overflow_add-b
add-b c = let made = c.before.before.before.before in
    omega (arith, row_fits made.before.before.requires)

forward-at-requires : tie.Need-forward_at-x-requires
forward-at-requires c κs = let got = c.before in
    let made = got.before.before in
    let st = made.before.before.before in
    let size = made.factor_row.auto.s in
    (omega (arith, row_fits st.requires), omega (arith, st.requires))

returns : tie.Need-returns
returns c = let forward = c.before in
    let got = forward.before in
    let made = got.before.before.before in
    let st = made.before.before.before in
    eliminated_any _ made.factor_row.ensures st.requires refl forward.forward_at-x.ensures (c.is_good.ensures ∙ ap good got.get-d.ensures)

pub eliminate_any_spec : {M : Type 1} → statement M
eliminate_any_spec =
    tie.close
    (tie.spec factor-row-requires add-get get-requires add-b (λ c. search rules) forward-at-requires (λ c. search rules)
    (λ c. search rules) (λ c. search rules) (λ c κs. search rules) (λ c. search rules) returns)
