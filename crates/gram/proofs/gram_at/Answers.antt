use Rattle.std.proofs.Common.{◌≡◌, ◌+◌, ◌-◌, arith}
use borrow.Author.Tests.{lt-ltb, le-ltb, le-leb}
use Rattle.banded.specs.Rows.{placed}
use Rattle.gram.specs.Gram.{gram}
use Rattle.gram.proofs.gram_at.Goals as goal

pub returns-then-r-k : goal.returns-then-r-k
unfolding placed
returns-then-r-k c = rw (lt-ltb (c.args.r + c.args.c) c.args.k (omega arith))

pub returns-else-r-k : goal.returns-else-r-k
unfolding placed gram
returns-else-r-k c = let a = c.args in
    let d : a.r - (a.r + a.c - a.k) ≡ a.k - a.c = omega arith in
    rw (le-ltb (a.r + a.c) a.k (omega arith), d, le-leb (a.k - a.c) a.k (omega arith))
