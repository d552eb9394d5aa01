use borrow.Author.Rules.{rules}
use borrow.Author.Tests.{not-true, not-false}
use mathlib.Core.Path.{refl, sym, ◌∙◌}
use mathlib.Core.List.{[], ◌∷◌}
use Prim.Native.Nat.{◌-◌, ◌+◌, ◌*◌, ◌≤◌}
use native.Mathlib.Omega.{arith}
use Rattle.vectors.specs.Vec.{at}
use Rattle.banded.specs.Rows.{good}
use Rattle.banded.specs.Run.{Stored}
use Rattle.newton_system.specs.Rows.{besides}
use Rattle.newton_system.proofs.Places.{product_place}
use Rattle.newton_sweep.proofs.Sweeps.{Room, RowDone, Going, going_none, room, going_more, going-bad, going_done}
use Rattle.newton_sweep.proofs.Inner.{mid, lent, at_mid, Last1, done_1, last_1}
use Rattle.newton_sweep.proofs.rows1.Statement.{statement}
use Rattle.newton_sweep.proofs.rows1.Tie as tie

abbrev invariant-loop : tie.invariant-loop-r
invariant-loop s₀ a dy lam inv_t m start g e acc₀ d₀ u₀ r₀ s acc d u r = Going 1 g dy lam inv_t a m 1 (m - 1) start s₀ s acc r × (1 ≤ r) × Last1 m r (mid 1 a m s) d u

abbrev decreases-loop : tie.decreases-loop-r
decreases-loop s₀ a dy lam inv_t m start g e acc₀ d₀ u₀ r₀ s acc d u r = m - 1 - r

loop-holds : tie.Need-loop-r-init invariant-loop decreases-loop
loop-holds c = let st = c.before.before.before.before in
    let a = st.args in
    let o : Room 1 a.a a.m a.s.now = record { fits = omega (arith, st.requires) } in
    (going_none st.requires, omega arith, record { pivot = at_mid o 1 (a.a + 1) (omega arith) refl; side = at_mid o (a.m * 2 + 1 - 1) (a.a + a.m * 2) (omega arith) (omega arith) })

row-with-requires : tie.Need-row_with-row-requires invariant-loop decreases-loop
row-with-requires c κs = let product = c in
    let at-loop = product.before.before.before in
    let st = at-loop.before.before.before.before.before in
    (search rules, product_place 1 st.args.g st.args.m at-loop.loop-r.s at-loop.loop-r.r product.product_inner-q.ensures (omega (arith, st.requires, at-loop.loop-r.invariant.0.size)))

-- the steps back from the test of the pivot, to the row as made, the loop and the call
abbrev row : tie.After-is_good invariant-loop decreases-loop → tie.After-row_with-row invariant-loop decreases-loop
row t = t.before.before.before.before.before.before

abbrev inside : tie.After-is_good invariant-loop decreases-loop → tie.In-loop-r invariant-loop decreases-loop
inside t = (row t).before.before.before

abbrev called : tie.In-loop-r invariant-loop decreases-loop → tie.Start invariant-loop decreases-loop
called l = l.before.before.before.before.before.before

-- the row stored and, so, done
put : (t : tie.After-is_good invariant-loop decreases-loop) → let l = (inside t).before.loop-r in let a = (called (inside t)).args in let w = t.before.before.before.before.before.next1-w.result in
    Stored 1 a.m l.r (at (w.left ∷ w.pivot ∷ [])) w.side (mid 1 a.a a.m l.s) t.before.before.before.store1.new.s
put t = let a = (called (inside t)).args in
    rw (lent a.a (a.m * 2 + a.m)) at t.before.before.before.store1.ensures

done : (t : tie.After-is_good invariant-loop decreases-loop) → let l = (inside t).before.loop-r in let a = (called (inside t)).args in let v = (row t).row_with-row.result in
    RowDone 1 a.m l.r (besides 1 a.g v.diagonal) v.right (mid 1 a.a a.m l.s) t.before.before.before.store1.new.s (good t.before.before.before.before.before.next1-w.result.pivot)
done t = let w = (inside t).before.loop-r.invariant in
    let st = called (inside t) in
    done_1 st.args.g w.1 (omega (arith, st.requires, (inside t).loop-r-test)) (room st.requires w.0) (put t) t.before.before.before.before.before.next1-w.ensures w.2

returns : tie.Need-returns-then-not-is_good invariant-loop decreases-loop
returns c = let t = c.before in
    let l = inside t in
    let a = (called l).args in
    rw (lent a.a (a.m * 2 + a.m)) (going-bad (called l).requires l.before.loop-r.invariant.0 (omega (arith, l.loop-r-test)) (row t).row_with-row.ensures (done t) refl (sym t.is_good.ensures ∙ c.if-not-is_good.true))

add_r : tie.Need-overflow_add-r invariant-loop decreases-loop
add_r c = let l = inside c.before.before in
    omega (arith, l.loop-r-test, (called l).ranges)

loop-again : tie.Need-loop-r-preserved invariant-loop decreases-loop
loop-again c = let t = c.before.before in
    let l = inside t in
    let st = called l in
    let a = st.args in
    let w = l.before.loop-r.invariant in
    rw (lent a.a (a.m * 2 + a.m)) (
      going_more st.requires w.0 (omega (arith, l.loop-r-test)) (row t).row_with-row.ensures (done t) refl (sym t.is_good.ensures ∙ c.before.if-not-is_good.false),
      omega arith,
      last_1 a.g w.1 (omega (arith, st.requires, l.loop-r-test)) (room st.requires w.0) (put t),
    )

returns-2 : tie.Need-returns invariant-loop decreases-loop
returns-2 c = let at-loop = c.before in
    going_done at-loop.before.before.before.before.before.requires at-loop.loop-r.invariant.0 (omega arith)

pub rows1_spec : {M : Type 1} → statement M
rows1_spec =
    tie.close
    (tie.spec invariant-loop decreases-loop (λ c. search rules) (λ c. search rules) (λ c. search rules) (λ c. search rules)
    (λ c. search rules) (λ c. search rules) (λ c. search rules) (λ c. search rules) (λ c. search rules)
    (λ c. search rules) loop-holds (λ c. search rules) (λ c. search rules) (λ c. search rules) (λ c. search rules)
    (λ c κs. search rules) row-with-requires (λ c. search rules) (λ c κs. search rules) (λ c. search rules)
    (λ c. search rules) (λ c. search rules) (λ c. search rules) (λ c κs. search rules) (λ c κs. search rules)
    (λ c. search rules) returns add_r (λ c. search rules) loop-again (λ c. search rules) returns-2)
