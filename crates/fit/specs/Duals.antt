-- Document 02, A3: the dual point of a fit, for a network that rechecks the fit (`Rattle.fit.proofs.Duals` proves it).
use Rattle.std.specs.Prelude.{◌≡◌, ◌⊎◌, true, false, List, ℕ, ◌<◌, T, Float}
use Rattle.std.specs.Float.{nan}
use Rattle.std.specs.Float.Ieee.{neg, lt, le, eq}
use Rattle.float64.specs.Ops.{◌⊖◌, c0}
use Rattle.vectors.specs.Vec.{at}
use Rattle.differences.specs.Diff.{diff_k}
use Rattle.certificate.specs.Certificate.{dual_value}
use Rattle.l2.specs.L2.{dual_l2}
use Rattle.questions.specs.Questions.{Asked, Lent}
use Rattle.fit.specs.Fit.{FitResult, fitted, places, fit}

-- within ±lam, or a NaN
abbrev pub InBox : Float → Float → Type 0
InBox lam z = (z ≡ nan) ⊎ (T (le (neg lam) z) × T (le z lam))

-- what the dual point d of a fit tells, with its gap and its objective
pub record Rechecks (a : Asked) (d : List Float) (gap objective : Float) : Type 0 where
  -- L1: each of its m places is within ±lam, or a NaN,
  pub inside : a.penalty ≡ 1 → (i : ℕ) → i < places a → InBox a.lam (at d i)
  -- and where lam isn't 0 or -0, the gap is the objective less G at d.
  pub gap_l1 : a.penalty ≡ 1 → eq a.lam c0 ≡ false → gap ≡ objective ⊖ dual_value a.order (diff_k a.order a.y) d
  -- L2: where lam is above 0, the gap is the objective less L2's own G at d.
  pub gap_l2 : a.penalty ≡ 2 → lt c0 a.lam ≡ true → gap ≡ objective ⊖ dual_l2 a.order a.y a.lam d

-- for whatever is asked and lent
abbrev pub DualPoint : Asked → Lent → Type 0
DualPoint a l = (f : FitResult) → fit a l ≡ fitted f → Rechecks a f.dual f.numbers.gap f.numbers.objective
