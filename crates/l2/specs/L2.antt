-- Document 01, "Polish, knots, closed paths": L2. The trend solves (I + lam·D'D) x = y.
use Rattle.std.specs.Prelude.{Bool, cond, List, ℕ, length, Float}
use Rattle.std.specs.Float.Ieee.{neg, lt}
use Rattle.float64.specs.Ops.{◌⊕◌, ◌⊖◌, ◌⊗◌, ◌⊘◌, c0, c2, half}
use Rattle.vectors.specs.Vec.{at, list}
use Rattle.vectors.specs.Sums.{norm2_sq, dot}
use Rattle.differences.specs.Diff.{diff_k, diff_kt, stencil}
use Rattle.banded.specs.Rows.{Matrix, rows, sound}
use Rattle.banded.specs.Solve.{solve}
use Rattle.ridge.specs.Ridge.{ridge}
use Rattle.certificate.specs.Certificate.{minus}
use Rattle.search.specs.Search.{gap_between}

-- I + lam·D'D
abbrev pub system_l2 : ℕ → List Float → Float → Matrix
system_l2 k y lam = ridge k (stencil k) lam (length y)

-- whether every pivot is good
unfoldable pub sound_l2 : ℕ → List Float → Float → Bool
sound_l2 k y lam = sound k (system_l2 k y lam) (length y)

-- the trend
unfoldable pub trend_l2 : ℕ → List Float → Float → List Float
trend_l2 k y lam = solve k (rows k (system_l2 k y lam) (length y)) y

-- lam·D x
unfoldable pub scaled : Float → List Float → List Float
scaled lam d = list (length d) (λ i. lam ⊗ at d i)

-- 0.5·Σ(y - x)² + (0.5·lam)·Σ(D x)²
unfoldable pub objective_l2 : ℕ → List Float → Float → List Float → Float
objective_l2 k y lam x = half ⊗ norm2_sq (minus y x) ⊕ half ⊗ lam ⊗ norm2_sq (diff_k k x)

-- with v = lam·D x: -0.5·Σ(D'v)² + Σ v·D y - Σv²/(2·lam)
unfoldable pub dual_l2 : ℕ → List Float → Float → List Float → Float
dual_l2 k y lam v = neg half ⊗ norm2_sq (diff_kt k v) ⊕ dot v (diff_k k y) ⊖ norm2_sq v ⊘ (c2 ⊗ lam)

-- the gap of a trend x; 0 if lam isn't above 0
unfoldable pub gap_l2 : ℕ → List Float → Float → List Float → Float
gap_l2 k y lam x = cond (lt c0 lam) (gap_between (objective_l2 k y lam x) (dual_l2 k y lam (scaled lam (diff_k k x)))) c0
