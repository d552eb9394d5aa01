-- Document 01, "Interior point": the line search along the direction of a Newton step.
use Rattle.std.specs.Prelude.{Bool, cond, ◌&&◌, List, ℕ, zero, suc, length, Float}
use Rattle.std.specs.Float.Ieee.{le}
use Rattle.float64.specs.Ops.{◌⊕◌, ◌⊖◌, ◌⊗◌, c1, half, c0·01}
use Rattle.vectors.specs.Sums.{inside}
use Rattle.vectors.specs.Vec.{at, list}
use Rattle.dual_point.specs.Dual.{Dual}
use Rattle.newton_system.specs.Newton.{NewtonData, residual_norm, newton_z}
use Rattle.direction.specs.Direction.{direction, step_cap_to}

-- v + step·d, place by place
unfoldable pub stepped : Float → List Float → List Float → List Float
stepped step v d = list (length v) (λ i. at v i ⊕ step ⊗ at d i)

-- the point at a step from p in the direction d
unfoldable pub along : Dual → Dual → Float → Dual
along p d step = record { z = stepped step p.z d.z; mu1 = stepped step p.mu1 d.mu1; mu2 = stepped step p.mu2 d.mu2 }

-- how a line search ended: the last trial, and the step, halved if that trial was not accepted
pub record Trial : Type 0 where
  pub point : Dual
  pub step : Float

-- the residual norm at a trial, new, is at most (1 - 0.01·step)·old
abbrev pub sufficient_decrease : Float → Float → Float → Bool
sufficient_decrease new step old = le new ((c1 ⊖ c0·01 ⊗ step) ⊗ old)

-- the trial q at a step is accepted: inside the bounds, and with a residual norm low enough against the old one
unfoldable pub accepted : NewtonData → Float → Dual → Float → Bool
accepted c old q step = inside c.lam q.z && sufficient_decrease (residual_norm c q) step old

-- n trials left, from p in the direction d; old is the residual norm at p, last the trial before. One that is not accepted halves the step
unfoldable pub trials : NewtonData → Dual → Dual → Float → ℕ → Float → Dual → Trial
trials c p d old zero step last = record { point = last; step = step }
trials c p d old (suc n) step last =
    let q = along p d step in
    cond (accepted c old q step) (record { point = q; step = step }) (trials c p d old n (step ⊗ half) q)

-- the line search from p, 20 trials at most
unfoldable pub search_line : NewtonData → Dual → Trial
search_line c p =
    let d = direction c.lam c.inv_t p (newton_z c p) in
    trials c p d (residual_norm c p) 20 (step_cap_to p d (length p.z)) p

-- the last trial is taken only inside the bounds; otherwise the point p stays
abbrev pub next_point : Float → Dual → Trial → Dual
next_point lam p e = cond (inside lam e.point.z) e.point p
