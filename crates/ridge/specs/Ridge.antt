-- Document 01, "Differences and bands" and "Polish, knots, closed paths": the L2 system I + lam·D'D of a series of n, built by the operations of `solve_l2` in its order. c is the stencil of D: row r of D has c 0, .. , c k at columns r, .. , r + k.
use Rattle.std.specs.Prelude.{cond, List, ℕ, ◌+◌, ◌-◌, min, eqb, Float}
use Rattle.float64.specs.Ops.{◌⊗◌, c0, c1}
use Rattle.vectors.specs.Vec.{at}
use Rattle.banded.specs.Rows.{Matrix}
use Rattle.vectors.specs.Sums.{more_from}

-- the identity at row i and column j
abbrev pub identity_at : ℕ → ℕ → Float
identity_at i j = cond (eqb i j) c1 c0

-- what row r of D adds at row i and column j: (lam·c[i - r])·c[j - r]
abbrev pub share : List Float → Float → ℕ → ℕ → ℕ → Float
share c lam i j r = lam ⊗ at c (i - r) ⊗ at c (j - r)

-- row i and a column j up to i: the identity, and then the shares of the rows of D that reach both, upwards from row i - k (subtraction stops at 0)
unfoldable pub ridge : ℕ → List Float → Float → ℕ → Matrix
ridge k c lam n i j = more_from (identity_at i j) (share c lam i j) (i - k) (min (j + 1) (n - k))
