-- Document 01, "Interior point": the search for the dual point, one Newton step an iteration. k is the order, g the Gram row.
use Rattle.std.specs.Prelude.{cond, List, ℕ, pos, length, Float}
use Rattle.std.specs.Float.{binary64}
use Rattle.std.specs.Float.Ieee.{of_int, le}
use Rattle.float64.specs.Helpers.{max_of}
use Rattle.float64.specs.Ops.{◌⊗◌, ◌⊘◌, c0, c1, c2, c0·2, c1·2, c1e_10, infinity}
use Rattle.vectors.specs.Vec.{list}
use Rattle.differences.specs.Diff.{diff_k}
use Rattle.banded.specs.Rows.{sound}
use Rattle.certificate.specs.Certificate.{certify}
use Rattle.search.specs.Search.{Turn, lost, moved, Problem, Ended, searched}
use Rattle.dual_point.specs.Dual.{Dual}
use Rattle.newton_system.specs.Newton.{NewtonData, system}
use Rattle.line_search.specs.LineSearch.{search_line, next_point}

-- where the search stands: the dual point, t, and the last step
pub record State : Type 0 where
  pub point : Dual
  pub t : Float
  pub step : Float

-- if step ≥ 0.2, t becomes max(((2·m)·2) / gap, 1.2·t)
unfoldable pub next_t : ℕ → Float → State → Float
next_t m gap s = cond (le c0·2 s.step) (max_of (c2 ⊗ of_int binary64 (pos m) ⊗ c2 ⊘ gap) (c1·2 ⊗ s.t)) s.t

-- one iteration from s, given the gap there: the next t, then a Newton step with inv_t = 1 / t; a bad pivot loses it
unfoldable pub move : ℕ → List Float → List Float → Float → Float → State → Turn State
move k g y lam gap s =
    let m = length s.point.z in
    let t = next_t m gap s in
    let c : NewtonData = record { k = k; g = g; dy = diff_k k y; lam = lam; inv_t = c1 ⊘ t } in
    let e = search_line c s.point in
    cond (sound k (system k g lam s.point) m) (moved (record { point = next_point lam s.point e; t = t; step = e.step })) lost

-- the problem whose search it is: P and G of the certificate at z
unfoldable pub problem : ℕ → List Float → List Float → Float → Problem State
problem k g y lam = record {
  primal = λ s. (certify k y lam s.point.z).primal;
  dual = λ s. (certify k y lam s.point.z).dual;
  move = move k g y lam;
}

-- z = 0, mu1 = mu2 = 1, t = 1e-10, step infinite
unfoldable pub origin : ℕ → State
origin m = record { point = record { z = list m (λ i. c0); mu1 = list m (λ i. c1); mu2 = list m (λ i. c1) }; t = c1e_10; step = infinity }

-- the whole search, for a series whose D y has m places
unfoldable pub interior_point : ℕ → List Float → ℕ → List Float → Float → Float → ℕ → Ended State
interior_point k g m y lam tol max_iter = searched (problem k g y lam) tol max_iter (origin m)
