use borrow.Author.Tests.{lt-ltb, le-ltb, le-leb, lt-leb}
use Rattle.banded.specs.Rows.{placed}
use Rattle.gram.specs.Gram.{gram}
use Rattle.active_set.specs.ActiveSet.{compressed}
use Rattle.active_set.proofs.system.band_at.Goals as goal

pub returns-then-p-c : goal.returns-then-p-c
unfolding placed
returns-then-p-c c = simp (lt-ltb _ _ c.if-p-c.true)

pub returns-then-d-k : goal.returns-then-d-k
unfolding placed compressed gram
returns-then-d-k c = rw (le-ltb _ _ c.if-p-c.false, ← c.saturating_sub-d.ensures, le-leb _ _ c.if-d-k.true)

pub returns-else-d-k : goal.returns-else-d-k
unfolding placed compressed gram
returns-else-d-k c = rw (le-ltb _ _ c.if-p-c.false, ← c.saturating_sub-d.ensures, lt-leb _ _ c.if-d-k.false)
