-- The dual point has m places wherever the search ends. Assumes nothing.
use mathlib.Core.Path.{◌≡◌, refl, ◌∙◌}
use mathlib.Core.Bool.{Bool, true, false, cond}
use mathlib.Core.List.{List}
use Prim.Native.Nat.{ℕ, zero, suc}
use lib.ListN.{length}
use lib.Ieee.{Float}
use Rattle.float64.specs.Ops.{◌⊕◌, ◌⊗◌, c0, half}
use Rattle.vectors.specs.Vec.{at}
use Rattle.vectors.specs.Sums.{inside}
use Rattle.vectors.proofs.Laws.{length-list}
use Rattle.banded.specs.Rows.{sound}
use Rattle.search.specs.Search.{moved, lost, start_at}
use Rattle.search.proofs.Trace.{Led, trace, kept_to_end}
use Rattle.dual_point.specs.Dual.{Dual}
use Rattle.newton_system.specs.Newton.{NewtonData, system}
use Rattle.line_search.specs.LineSearch.{stepped, along, accepted, trials, search_line, next_point}
use Rattle.interior_point.specs.InteriorPoint.{State, move, problem, origin, interior_point}

-- ---- of the line search from p
trial_length : (c : NewtonData) (p d : Dual) (old : Float) (n : ℕ) (step : Float) (last : Dual) → length last.z ≡ length p.z
    → length (trials c p d old n step last).point.z ≡ length p.z
unfolding trials along stepped
trial_length c p d old zero step last h = h
trial_length c p d old (suc n) step last h =
    let size = length-list (length p.z) (λ i. at p.z i ⊕ step ⊗ at d.z i) in
    go (accepted c old (along p d step) step) size (trial_length c p d old n (step ⊗ half) (along p d step) size)
  where
    go : (b : Bool) → length (along p d step).z ≡ length p.z → length (trials c p d old n (step ⊗ half) (along p d step)).point.z ≡ length p.z
        → length (cond b (record { point = along p d step; step = step }) (trials c p d old n (step ⊗ half) (along p d step))).point.z ≡ length p.z
    go true e f = e
    go false e f = f

line-length : (c : NewtonData) (p : Dual) → length (search_line c p).point.z ≡ length p.z
unfolding search_line
line-length c p = trial_length c p _ _ 20 _ p refl

next-length : (c : NewtonData) (lam : Float) (p : Dual) → length (next_point lam p (search_line c p)).z ≡ length p.z
next-length c lam p = go (inside lam (search_line c p).point.z)
  where
    go : (b : Bool) → length (cond b (search_line c p).point p).z ≡ length p.z
    go true = line-length c p
    go false = refl

-- ---- of an iteration, and of the whole search
module _ (k : ℕ) (g y : List Float) (lam : Float) (m : ℕ) where
  abbrev Spans : State → Type 0
  Spans s = length s.point.z ≡ m

  move-length : (gap : Float) (s : State) → Spans s → Led Spans (move k g y lam gap s)
  unfolding move
  move-length gap s h = go (sound k (system k g lam s.point) (length s.point.z)) _ (next-length _ lam s.point ∙ h)
    where
      go : (b : Bool) (t : State) → Spans t → Led Spans (cond b (moved t) lost)
      go true t e = e
      go false t e = tt

  pub search_length : (tol : Float) (max_iter : ℕ) → length (interior_point k g m y lam tol max_iter).state.point.z ≡ m
  unfolding interior_point problem origin
  search_length tol max_iter = kept_to_end Spans move-length (trace (problem k g y lam) tol max_iter (start_at (problem k g y lam) (origin m))) (length-list m (λ i. c0))
