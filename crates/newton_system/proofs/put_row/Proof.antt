use mathlib.Core.Path.{◌≡◌}
use native.Mathlib.Omega.{arith}
use Rattle.newton_system.proofs.Places.{put_1, put_2}
use borrow.Author.Rules.{rules}
use Rattle.newton_system.proofs.put_row.Statement.{statement}
use Rattle.newton_system.proofs.put_row.Tie as tie

store1-requires : tie.Need-store1-requires
store1-requires c κs = let one = c.before in
    rw one.if-k-eq1.true at one.before.before.requires.1

returns : tie.Need-returns-then-k-eq1
returns c = let done = c.before.before in
    let one = done.before.before in
    let a = one.before.before.args in
    rw one.if-k-eq1.true (put_1 a.g a.d done.store1.ensures)

store2-requires : tie.Need-store2-requires
store2-requires c κs = let st = c.before.before.before in
    let e : st.args.k ≡ 2 = omega arith in
    rw e at st.requires.1

returns-2 : tie.Need-returns
returns-2 c = let done = c.before.before in
    let st = done.before.before.before.before in
    let a = st.args in
    let e : a.k ≡ 2 = omega arith in
    rw e (put_2 a.g a.d done.store2.ensures)

pub put_row_spec : {M : Type 1} → statement M
put_row_spec =
    tie.close
    (tie.spec (λ c. search rules) store1-requires (λ c. search rules) returns (λ c. search rules) (λ c. search rules)
    store2-requires (λ c. search rules) returns-2)
