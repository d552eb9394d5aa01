use borrow.Author.Rules.{rules}
use mathlib.Core.Path.{◌≡◌}
use native.Mathlib.Omega.{arith}
use Rattle.newton_sweep.proofs.rows_inner.Statement.{statement}
use Rattle.newton_sweep.proofs.rows_inner.Tie as tie

rows1-requires : tie.Need-rows1-requires
rows1-requires c κs = let one = c.before in
    rw one.if-k-eq1.true at one.before.before.before.requires

returns : tie.Need-returns-then-k-eq1
returns c = let done = c.before.before in
    rw done.before.before.if-k-eq1.true done.rows1.ensures

rows2-requires : tie.Need-rows2-requires
rows2-requires c κs = let st = c.before.before.before.before in
    let e : st.args.k ≡ 2 = omega (arith, st.requires.system.order) in
    rw e at st.requires

returns-2 : tie.Need-returns
returns-2 c = let done = c.before.before in
    let st = done.before.before.before.before.before in
    let e : st.args.k ≡ 2 = omega (arith, st.requires.system.order) in
    rw e done.rows2.ensures

pub rows_inner_spec : {M : Type 1} → statement M
rows_inner_spec =
    tie.close
    (tie.spec rows1-requires (λ c. search rules) returns rows2-requires (λ c. search rules) returns-2)
