use borrow.Author.Rules.{rules}
use mathlib.Core.Path.{◌≡◌}
use native.Mathlib.Omega.{arith}
use Rattle.elimination.proofs.eliminate.Statement.{statement}
use Rattle.elimination.proofs.eliminate.Tie as tie

eliminate1-requires : tie.Need-eliminate1-requires
eliminate1-requires c κs = let st = c.before.before.before.before in
    let e : st.args.k ≡ 1 = c.before.if-k-eq1.true in
    (omega arith, rw e at st.requires)

returns-2 : tie.Need-returns-then-k-eq1
returns-2 c = let done = c.before.before in
    rw done.before.before.if-k-eq1.true done.eliminate1.ensures

eliminate2-requires : tie.Need-eliminate2-requires
eliminate2-requires c κs = let st = c.before.before.before.before.before in
    let e : st.args.k ≡ 2 = c.before.if-k-eq2.true in
    (omega arith, rw e at st.requires)

returns-3 : tie.Need-returns-then-k-eq2
returns-3 c = let done = c.before.before in
    rw done.before.before.if-k-eq2.true done.eliminate2.ensures

pub eliminate_spec : {M : Type 1} → statement M
eliminate_spec =
    tie.close
    (tie.spec (λ c κs. search rules) (λ c. search rules) (λ c. search rules) eliminate1-requires (λ c. search rules)
    returns-2 eliminate2-requires (λ c. search rules) returns-3 (λ c κs. search rules) (λ c. search rules)
    (λ c. search rules))
