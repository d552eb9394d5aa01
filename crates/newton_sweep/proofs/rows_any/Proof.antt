use borrow.Author.Rules.{rules}
use borrow.Author.Tests.{not-true, not-false}
use Prim.Native.Nat.{◌-◌}
use native.Mathlib.Omega.{arith}
use Rattle.newton_sweep.proofs.Sweeps.{Going, going_none, going_done}
use Rattle.newton_sweep.proofs.Inner.{any_more, any_bad}
use Rattle.newton_sweep.proofs.rows_any.Statement.{statement}
use Rattle.newton_sweep.proofs.rows_any.Tie as tie

abbrev invariant-loop : tie.invariant-loop-r
invariant-loop s₀ a dy lam inv_t g k m from to start e acc₀ r₀ s acc r = Going k g dy lam inv_t a m from to start s₀ s acc r

abbrev decreases-loop : tie.decreases-loop-r
decreases-loop s₀ a dy lam inv_t g k m from to start e acc₀ r₀ s acc r = to - r

loop-holds : tie.Need-loop-r-init invariant-loop decreases-loop
loop-holds c = going_none c.before.before.requires

returns : tie.Need-returns-then-not-eliminate invariant-loop decreases-loop
returns c = let done = c.before.before.before in
    let put = done.before.before.before.before in
    let row = put.before.before in
    let l = row.before.before in
    any_bad l.before.before.before.requires l.loop-r.invariant (omega arith) row.row_at-v.ensures put.put_row.ensures done.eliminate.ensures (c.if-not-eliminate.true)

loop-again : tie.Need-loop-r-preserved invariant-loop decreases-loop
loop-again c = let kept = c.before in
    let done = kept.before.before.before in
    let put = done.before.before.before.before in
    let row = put.before.before in
    let l = row.before.before in
    any_more l.before.before.before.requires l.loop-r.invariant (omega arith) row.row_at-v.ensures put.put_row.ensures done.eliminate.ensures (kept.if-not-eliminate.false)

returns-2 : tie.Need-returns invariant-loop decreases-loop
returns-2 c = let at-loop = c.before in
    going_done at-loop.before.before.before.requires at-loop.loop-r.invariant (omega arith)

pub rows_any_spec : {M : Type 1} → statement M
rows_any_spec =
    tie.close
    (tie.spec invariant-loop decreases-loop (λ c. search rules) (λ c. search rules) (λ c. search rules) (λ c. search rules)
    loop-holds (λ c κs. search rules) (λ c. search rules) (λ c. search rules) (λ c. search rules)
    (λ c. search rules) (λ c κs. search rules) (λ c. search rules) (λ c. search rules) (λ c. search rules)
    (λ c. search rules) (λ c κs. search rules) (λ c. search rules) returns (λ c. search rules) (λ c. search rules)
    loop-again (λ c. search rules) returns-2)
