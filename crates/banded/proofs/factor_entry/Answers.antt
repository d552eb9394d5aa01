use Rattle.std.proofs.Common.{◌≡◌, ◌≤◌, ◌+◌, ◌-◌, sym, ◌∙◌, arith}
use borrow.Author.Tests.{lt-ltb, le-ltb}
use native.Mathlib.Nat.{add-sub_cancel_left}
use Rattle.banded.specs.Rows.{reduced, entry, placed}
use Rattle.banded.proofs.Laws.{across, less_from_none, less_from-more}
use Rattle.banded.proofs.factor_entry.Invariants.{products}
use Rattle.banded.proofs.factor_entry.Goals as goal

pub returns-then-r-c : goal.returns-then-r-c
unfolding placed
returns-then-r-c c = simp (lt-ltb _ _ c.if-r-c.true)

pub loop-t-init : goal.loop-t-init
loop-t-init c = c.get-v.ensures ∙ sym (less_from_none _ _ _ _ (omega arith))

pub loop-t-preserved : goal.loop-t-preserved
loop-t-preserved c =
    let a = c.args in
    let k = a.k in
    let r = a.r in
    let t = c.loop-t.t in
    let low : r - k ≤ r + t - k = omega arith in
    let next : r + (t + 1) - k ≡ r + t - k + 1 = omega arith in
    let x : r + t - k + k - r ≡ t = omega arith in
    let y = across k r a.c t (omega arith) (omega arith) in
    let z = add-sub_cancel_left (r + t - k) k in
    less_from-more _ (products k a.s.now r (r + a.c - k)) (r - k) (r + t - k) c.loop-t.invariant (rw (x, y, z) (cc)) low next

pub returns-then-c-k : goal.returns-then-c-k
unfolding placed entry reduced
returns-then-c-k c =
    let a = c.args in
    let e : c.loop-t.t ≡ a.c = omega arith in
    let x : a.r + a.c - a.k + a.k - a.r ≡ a.c = omega arith in
    let y = add-sub_cancel_left (a.r + a.c - a.k) a.k in
    simp (le-ltb _ _ c.if-r-c.false, lt-ltb (a.r + a.c - a.k) a.r (omega arith), x, y) (cc)

pub returns : goal.returns
unfolding placed entry reduced
returns c =
    let a = c.args in
    let e : c.loop-t.t ≡ a.c = omega arith in
    let x : a.r + a.c - a.k + a.k - a.r ≡ a.c = omega arith in
    simp (le-ltb _ _ c.if-r-c.false, le-ltb (a.r + a.c - a.k) a.r (omega arith), x) (cc)
