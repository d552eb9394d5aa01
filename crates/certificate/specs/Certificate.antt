-- Document 01, "Certificate at z".
use Rattle.std.specs.Prelude.{List, ℕ, length, Float}
use Rattle.std.specs.Float.Ieee.{neg}
use Rattle.float64.specs.Helpers.{clamp_of}
use Rattle.float64.specs.Ops.{◌⊕◌, ◌⊖◌, ◌⊗◌, half}
use Rattle.vectors.specs.Vec.{at, list}
use Rattle.vectors.specs.Sums.{norm2_sq, dot, sum_abs}
use Rattle.differences.specs.Diff.{diff_k, diff_kt}
use Rattle.search.specs.Search.{gap_between}

-- the trend x, P, G, and zc, the clamped z
pub record Certificate : Type 0 where
  pub trend : List Float
  pub primal : Float
  pub dual : Float
  pub zc : List Float

-- a - b, place by place
unfoldable pub minus : List Float → List Float → List Float
minus a b = list (length a) (λ i. at a i ⊖ at b i)

-- z, each place clamped to lam
unfoldable pub clamped : Float → List Float → List Float
clamped lam z = list (length z) (λ i. clamp_of (at z i) lam)

-- G at a dual point z: -0.5·Σ(D'z)² + Σ z·dy, where dy is D y
abbrev pub dual_value : ℕ → List Float → List Float → Float
dual_value k dy z = neg half ⊗ norm2_sq (diff_kt k z) ⊕ dot z dy

-- x = y - D'z; P = 0.5·Σ(D'z)² + lam·Σ|D x|; G at zc, the clamped z
unfoldable pub certify : ℕ → List Float → Float → List Float → Certificate
certify k y lam z =
    let w = diff_kt k z in
    let x = minus y w in
    let dx = diff_k k x in
    let zc = clamped lam z in
    record {
      trend = x;
      primal = half ⊗ norm2_sq w ⊕ lam ⊗ sum_abs dx;
      dual = dual_value k (diff_k k y) zc;
      zc = zc;
    }

-- gap = P - G
abbrev pub gap_of : Certificate → Float
gap_of c = gap_between c.primal c.dual
