-- Document 01, "Interior point": the direction of a Newton step, and the step cap. inv_t is 1 / t.
use Rattle.std.specs.Prelude.{cond, List, ℕ, zero, suc, length, Float}
use Rattle.std.specs.Float.Ieee.{neg, lt}
use Rattle.float64.specs.Helpers.{min_of}
use Rattle.float64.specs.Ops.{◌⊕◌, ◌⊖◌, ◌⊗◌, ◌⊘◌, c0, c1, c0·99}
use Rattle.vectors.specs.Vec.{at, list}
use Rattle.dual_point.specs.Dual.{Dual, Values, values_at}
use Rattle.newton_system.specs.Newton.{f1, f2}

-- how mu1 moves at a place where z moves by dz, v being the point there: -(mu1 + (inv_t + dz·mu1) / f1)
unfoldable pub dmu1_at : Float → Float → Values → Float → Float
dmu1_at lam inv_t v dz = neg (v.mu1 ⊕ (inv_t ⊕ dz ⊗ v.mu1) ⊘ f1 lam v.z)

-- how mu2 moves there: -(mu2 + (inv_t - dz·mu2) / f2)
unfoldable pub dmu2_at : Float → Float → Values → Float → Float
dmu2_at lam inv_t v dz = neg (v.mu2 ⊕ (inv_t ⊖ dz ⊗ v.mu2) ⊘ f2 lam v.z)

-- the whole direction from p, where z moves by dz
unfoldable pub direction : Float → Float → Dual → List Float → Dual
direction lam inv_t p dz = record {
  z = dz;
  mu1 = list (length p.z) (λ i. dmu1_at lam inv_t (values_at p i) (at dz i));
  mu2 = list (length p.z) (λ i. dmu2_at lam inv_t (values_at p i) (at dz i));
}

-- ---- the step cap

-- a multiplier mu that falls caps the step at 0.99·(-mu / dmu)
unfoldable pub step_cap_by : Float → Float → Float → Float
step_cap_by step mu dmu = cond (lt dmu c0) (min_of step (c0·99 ⊗ (neg mu ⊘ dmu))) step

-- 1, capped by the first n places of p and its direction d in turn, at each by mu1 and then by mu2
unfoldable pub step_cap_to : Dual → Dual → ℕ → Float
step_cap_to p d zero = c1
step_cap_to p d (suc i) = step_cap_by (step_cap_by (step_cap_to p d i) (at p.mu1 i) (at d.mu1 i)) (at p.mu2 i) (at d.mu2 i)
