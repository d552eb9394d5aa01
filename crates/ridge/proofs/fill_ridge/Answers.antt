use Rattle.std.proofs.Common.{◌≤◌, ◌-◌, ◌+◌, arith}
use Rattle.banded.proofs.Filling.{laid_none}
use Rattle.ridge.specs.Ridge.{ridge}
use Rattle.ridge.proofs.Alike.{laid_repeat, ridge_alike, rows_span}
use Rattle.ridge.proofs.fill_ridge.Goals as goal

pub returns : goal.returns
returns c = let a = c.args in
    let k = a.k in
    let n = a.n in
    let m = n - k in
    let g = c.stencil-c.result in
    let low : k + 1 ≤ m = omega arith in
    let first = c.ridge_rows-2.ensures a.s.now (laid_none k (ridge k g a.lam n) a.s.now) in
    let inner = laid_repeat {a = ridge k g a.lam n} first c.repeat.ensures (omega arith) low (rows_span (k + 1) m low) (λ i j h l u. ridge_alike k g a.lam n i j (omega arith) l u) in
    rw c.stencil-c.ensures at (c.ridge_rows-3.ensures a.s.now inner)
