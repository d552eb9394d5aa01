use borrow.Author.Rules.{rules}
use borrow.Author.Tests.{not-true}
use mathlib.Core.Path.{◌≡◌}
use Prim.Native.Nat.{◌-◌, ◌+◌, ◌*◌}
use native.Mathlib.Omega.{arith}
use Rattle.newton_sweep.proofs.Sweeps.{newton_bad, newton_solved}
use Rattle.newton_sweep.proofs.newton_z.Statement.{statement}
use Rattle.newton_sweep.proofs.newton_z.Tie as tie

returns : tie.Need-returns-then-not-w
returns c = newton_bad c.before.before.before.before.sweep-w.ensures (not-true _ c.if-not-w.true)

returns-2 : tie.Need-returns
returns-2 c = let solved = c.before.before in
    let good = solved.before.before in
    let swept = good.before.before.before.before in
    let st = swept.before.before.before.before in
    let a = st.args in
    let n = a.m * (a.k + 1) + a.m in
    let d : a.a + n - a.a ≡ n = omega (arith, st.requires) in
    rw d (newton_solved swept.sweep-w.ensures st.requires (rw d at solved.solve.ensures))

pub newton_z_spec : {M : Type 1} → statement M
newton_z_spec =
    tie.close
    (tie.spec (λ c κs. search rules) (λ c. search rules) returns (λ c. search rules) (λ c. search rules) (λ c. search rules)
    (λ c. search rules) (λ c. search rules) (λ c. search rules) (λ c. search rules) (λ c. search rules)
    (λ c κs. search rules) (λ c. search rules) returns-2)
