use native.Mathlib.Omega.{arith}
use Prim.Native.Nat.{◌+◌}
use borrow.Author.Rules.{rules}
use Rattle.rerun.proofs.Cases.{loaded, loaded_long, case_is}
use Rattle.rerun.proofs.equal_at.Statement.{statement}
use Rattle.rerun.proofs.equal_at.Tie as tie

slice-aggregate-fit-at : tie.Need-slice_bounds-fit_at-end
slice-aggregate-fit-at c = let d = c.before.before.before.before.before.before.before in
    let a = d.before.before.before.args in
    loaded_long a.s.now (a.a + 13) _ _ _ d.load.ensures

fit-at-requires : tie.Need-fit_at-requires
fit-at-requires c κs = let l = c.before.before.before.before.before.before.before.before.before in
    let w = l.lent_at-l.ensures.1 in
    (w, (omega (arith, w.n_in, slice-aggregate-fit-at c), omega (arith, w.n_in)))

returns : tie.Need-returns
returns c = let d2 = c.before.before in
    let w = d2.before in
    let d1 = w.before in
    let o2 = d1.before in
    let o1 = o2.before in
    let y = o1.before.before in
    let l = y.before.before in
    let a = l.before.args in
    case_is a.s.now a.a l.lent_at-l.ensures.0 (loaded a.s.now (a.a + 13) _ _ _ y.load.ensures) d2.double_at-lam.ensures d1.double_at.ensures w.word.ensures o1.option_at.ensures o2.option_at-2.ensures c.fit_at.ensures

pub equal_at_spec : {M : Type 1} → statement M
equal_at_spec =
    tie.close
    (tie.spec (λ c κs. search rules) (λ c. search rules) (λ c. search rules) (λ c κs. search rules) (λ c. search rules)
    (λ c κs. search rules) (λ c. search rules) (λ c κs. search rules) (λ c. search rules) (λ c κs. search rules)
    (λ c. search rules) (λ c κs. search rules) (λ c. search rules) (λ c κs. search rules) (λ c. search rules)
    slice-aggregate-fit-at (λ c. search rules) (λ c. search rules) fit-at-requires returns)
