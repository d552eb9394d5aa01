-- Document 01, "Polish, knots, closed paths": the candidate. k is the order, g the Gram row, dy is D y, p the point at which the search ended, h tells how each of its m places is held.
use Rattle.std.specs.Prelude.{cond, List, ℕ, length, Float}
use Rattle.std.proofs.Math.Option.{Option, none, some}
use Rattle.vectors.specs.Vec.{at, list}
use Rattle.banded.specs.Rows.{sound}
use Rattle.dual_point.specs.Dual.{Dual}
use Rattle.active_set.specs.declared.Hold.{Hold}
use Rattle.active_set.specs.ActiveSet.{is_free, held_at, hold_at, free_to, compressed, solved}

-- place i of the candidate: where it is held, or from the solution x, in which i comes after the free places below i
unfoldable pub candidate_at : Float → (ℕ → Hold) → List Float → ℕ → Float
candidate_at lam h x i = cond (is_free (h i)) (at x (length (free_to h i))) (held_at lam (h i))

-- the candidate; none where a pivot is bad. With no place free there is nothing to solve, and no pivot
unfoldable pub candidate : ℕ → List Float → List Float → Float → (ℕ → Hold) → ℕ → Option (List Float)
candidate k g dy lam h m =
    let f = free_to h m in
    cond (sound k (compressed k g f) (length f)) (some (list m (candidate_at lam h (solved k g dy lam h m)))) none

-- the polish of the point p, whose multipliers tell how each place is held
unfoldable pub polish : ℕ → List Float → List Float → Float → Dual → Option (List Float)
unfolding candidate
polish k g dy lam p = candidate k g dy lam (hold_at lam p) (length p.z)
