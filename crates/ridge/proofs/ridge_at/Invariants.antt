use Rattle.std.proofs.Common.{◌≡◌, ◌-◌}
use Rattle.vectors.specs.Sums.{more_from}
use Rattle.ridge.specs.Ridge.{share, identity_at}
use Rattle.ridge.proofs.ridge_at.Given as goal

abbrev pub invariant-loop-r : goal.invariant-loop-r
invariant-loop-r l = l.v ≡ more_from (identity_at l.i l.j) (share l.c l.lam l.i l.j) (l.i - l.k) l.r
