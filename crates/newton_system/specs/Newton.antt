-- Document 01, "Interior point": the Newton system of a point and the residual. k is the order, g the Gram row, i a place from 0 to m - 1.
use Rattle.std.specs.Prelude.{cond, List, ℕ, ltb, length, Float}
use Rattle.std.specs.Float.Ieee.{neg}
use Rattle.float64.specs.Ops.{◌⊕◌, ◌⊖◌, ◌⊗◌, ◌⊘◌}
use Rattle.square_root.specs.Sqrt.{sqrt_of}
use Rattle.vectors.specs.Sums.{sum_to}
use Rattle.vectors.specs.Vec.{at, list}
use Rattle.banded.specs.Rows.{Matrix, rows}
use Rattle.banded.specs.Solve.{solve}
use Rattle.gram.specs.Gram.{gram, product}
use Rattle.dual_point.specs.Dual.{Dual, Values, values_at}

-- what a Newton step is told: the order k, the Gram row g, D y, lam and 1 / t
pub record NewtonData : Type 0 where
  pub k : ℕ
  pub g : List Float
  pub dy : List Float
  pub lam : Float
  pub inv_t : Float

-- ---- at one place: v has z, mu1 and mu2, q is (D D') z and dy is D y there

-- f1 = z - lam, below 0 inside the bounds
abbrev pub f1 : Float → Float → Float
f1 lam z = z ⊖ lam

-- f2 = -z - lam, below 0 inside the bounds
abbrev pub f2 : Float → Float → Float
f2 lam z = neg z ⊖ lam

-- what the system adds to the diagonal of D D': (-mu1 / f1) - mu2 / f2
unfoldable pub diagonal_shift : Float → Values → Float
diagonal_shift lam v = neg v.mu1 ⊘ f1 lam v.z ⊖ v.mu2 ⊘ f2 lam v.z

-- the right side: ((-q + dy) + inv_t / f1) - inv_t / f2
unfoldable pub rhs_at : Float → Float → Float → Float → Values → Float
rhs_at lam inv_t q dy v = neg q ⊕ dy ⊕ inv_t ⊘ f1 lam v.z ⊖ inv_t ⊘ f2 lam v.z

-- the residuals rd = ((q - dy) + mu1) - mu2, rc1 = ((-mu1)·f1) - inv_t and rc2 = ((-mu2)·f2) - inv_t, and their square (rd² + rc1²) + rc2²
unfoldable pub residual_square_at : Float → Float → Float → Float → Values → Float
residual_square_at lam inv_t q dy v =
    let rd = q ⊖ dy ⊕ v.mu1 ⊖ v.mu2 in
    let rc1 = neg v.mu1 ⊗ f1 lam v.z ⊖ inv_t in
    let rc2 = neg v.mu2 ⊗ f2 lam v.z ⊖ inv_t in
    rd ⊗ rd ⊕ rc1 ⊗ rc1 ⊕ rc2 ⊗ rc2

-- ---- at a point

-- the matrix D D' + diag(-mu1/f1 - mu2/f2), at row i and a column j up to i
unfoldable pub system : ℕ → List Float → Float → Dual → Matrix
system k g lam p i j = cond (ltb j i) (gram k g i j) (gram k g i j ⊕ diagonal_shift lam (values_at p i))

-- the right side
unfoldable pub rhs : NewtonData → Dual → List Float
rhs c p = list (length p.z) (λ i. rhs_at c.lam c.inv_t (product c.k c.g p.z i) (at c.dy i) (values_at p i))

-- the residual's square, over all places
unfoldable pub residual_square : NewtonData → Dual → Float
residual_square c p = sum_to (λ i. residual_square_at c.lam c.inv_t (product c.k c.g p.z i) (at c.dy i) (values_at p i)) (length p.z)

-- the residual norm, its root
unfoldable pub residual_norm : NewtonData → Dual → Float
residual_norm c p = sqrt_of (residual_square c p)

-- dz, the solution of the system
unfoldable pub newton_z : NewtonData → Dual → List Float
newton_z c p = solve c.k (rows c.k (system c.k c.g c.lam p) (length p.z)) (rhs c p)
