use borrow.Author.Rules.{rules}
use borrow.Author.Tests.{not-true, not-false}
use Rattle.newton_sweep.proofs.Sweeps.{sweep_none, sweep_done}
use Rattle.newton_sweep.proofs.sweep.Statement.{statement}
use Rattle.newton_sweep.proofs.sweep.Tie as tie

returns : tie.Need-returns-then-m-k
returns c = let all = c.before.before in
    let st = all.before.before.before.before.before in
    let s = st.args.s.now in
    sweep_done (all.rows_any.ensures s sweep_none) st.requires

returns-2 : tie.Need-returns-then-not-f
returns-2 c = let first = c.before.before.before.before in
    let st = first.before.before.before.before.before in
    let s = st.args.s.now in
    (first.rows_any-f.ensures s sweep_none).ended (not-true _ c.if-not-f.true)

returns-3 : tie.Need-returns-then-not-w
returns-3 c = let inner = c.before.before.before.before in
    let good = inner.before.before in
    let first = good.before.before.before.before in
    let st = first.before.before.before.before.before in
    let s = st.args.s.now in
    let begun = (first.rows_any-f.ensures s sweep_none).on (not-false _ good.if-not-f.false) in
    (inner.rows_inner-w.ensures s begun).ended (not-true _ c.if-not-w.true)

returns-4 : tie.Need-returns
returns-4 c = let last = c.before.before in
    let fine = last.before.before in
    let inner = fine.before.before.before.before in
    let good = inner.before.before in
    let first = good.before.before.before.before in
    let st = first.before.before.before.before.before in
    let s = st.args.s.now in
    let begun = (first.rows_any-f.ensures s sweep_none).on (not-false _ good.if-not-f.false) in
    let most = (inner.rows_inner-w.ensures s begun).on (not-false _ fine.if-not-w.false) in
    sweep_done (last.rows_any-2.ensures s most) st.requires

pub sweep_spec : {M : Type 1} → statement M
sweep_spec =
    tie.close
    (tie.spec (λ c. search rules) (λ c κs. search rules) (λ c. search rules) returns (λ c κs. search rules)
    (λ c. search rules) returns-2 (λ c κs. search rules) (λ c. search rules) returns-3 (λ c. search rules)
    (λ c κs. search rules) (λ c. search rules) returns-4)
