use Rattle.std.proofs.Common.{◌≡◌, refl, sym, ◌∙◌, arith}
use borrow.Author.Tests.{lt-ltb, le-ltb}
use Rattle.vectors.proofs.Sums.{more_from_none, more_from-more}
use Rattle.banded.specs.Rows.{placed}
use Rattle.ridge.specs.Ridge.{ridge}
use Rattle.ridge.proofs.ridge_at.Goals as goal

pub returns-then-i-p : goal.returns-then-i-p
unfolding placed
returns-then-i-p c = simp (lt-ltb _ _ c.if-i-p.true)

pub loop-r-init : goal.loop-r-init
loop-r-init c = c.identity_at-v.ensures ∙ sym (more_from_none _ _ _ _ (omega arith))

pub loop-r-preserved : goal.loop-r-preserved
loop-r-preserved c = more_from-more _ _ _ c.loop-r.r c.loop-r.invariant refl (omega arith) refl

pub returns : goal.returns
unfolding placed ridge
returns c = let e : c.loop-r.r ≡ c.min-r-end.result = omega arith in
    simp (le-ltb _ _ c.if-i-p.false) (rw (e ∙ c.min-r-end.ensures) at c.loop-r.invariant)
