-- Document 01, "Interior point": the code's account of the search, Run, beside the definition.
use Rattle.std.specs.Prelude.{◌≡◌, Bool, true, false, cond, List, ℕ, suc, ◌+◌, ◌-◌, ◌≤◌, ◌<◌, ◌^◌, eqb, ltb, length, Option, Some, None, Float}
use Rattle.std.specs.Float.Ieee.{lt, le}
use Rattle.float64.specs.Ops.{◌⊗◌, c0·99}
use Rattle.vectors.specs.Parts.{Kept, part}
use Rattle.differences.specs.Diff.{gram_row}
use Rattle.certificate.specs.Certificate.{Certificate, certify, gap_of}
use Rattle.certificate.specs.Ready.{Ready}
use Rattle.search.specs.declared.Reason.{Reason}
use Rattle.search.specs.declared.Reason.TheVariants.{GapSmall, LimitSpent, Stalled, PivotLost}
use Rattle.search.specs.Search.{Problem, Point, Ended, ended, start_at, run}
use Rattle.dual_point.specs.Dual.{Dual}
use Rattle.dual_point.specs.Lanes.{search_area}
use Rattle.dual_point.specs.Places.{point}
use Rattle.line_search.specs.LineSearch.{Trial, next_point}
use Rattle.interior_point.specs.InteriorPoint.{State, problem, origin, interior_point}
use Rattle.interior_point.specs.declared.Run.{Run}
use Rattle.interior_point.specs.declared.Ended as code

-- the point in s, after the places of the trend
abbrev pub point_in : ℕ → List Float → List Float → Dual
point_in k y s = point (length y) (length y - k) s

-- where the search stands
abbrev pub state_of : ℕ → List Float → List Float → Run → State
state_of k y s r = record { point = point_in k y s; t = r.t; step = r.step }

-- and its counts and gaps
abbrev pub point_of : ℕ → List Float → List Float → Run → Point State
point_of k y s r = record { state = state_of k y s r; n_iter = r.n_iter; first = r.first; best = r.best; improvements = r.improvements; stall = r.stalled }

-- the trend in s, the clamped z in d, and P and the gap of r, are those of the point in s
pub record Standing (k : ℕ) (y : List Float) (lam : Float) (s d : List Float) (r : Run) : Type 0 where
  pub trend : part 0 (length y) s ≡ (certify k y lam (point_in k y s).z).trend
  pub dual : part 0 (length y - k) d ≡ (certify k y lam (point_in k y s).z).zc
  pub primal : r.primal ≡ (certify k y lam (point_in k y s).z).primal
  pub gap : r.gap ≡ gap_of (certify k y lam (point_in k y s).z)

-- the start: the definition's, its trend and certificate
pub record Started (k : ℕ) (y : List Float) (lam : Float) (s₀ s d₀ d : List Float) (r : Run) : Type 0 where
  pub begins : (g : List Float) → point_of k y s r ≡ start_at (problem k g y lam) (origin (length y - k))
  pub standing : Standing k y lam s d r
  pub lost : r.lost ≡ false
  pub kept : Kept 0 (search_area (length y)) s₀ s
  pub dual_kept : Kept 0 (length y - k) d₀ d

-- what is left of the search from p on, unless a pivot was lost
abbrev pub left_of : Problem State → Float → ℕ → Point State → Bool → Ended State
left_of L tol j p true = ended p PivotLost
left_of L tol j p false = run L tol j p

-- why no other iteration is made, if none is: l says that a pivot was lost, e that the gap is small enough, w that n_iter is below the limit, t that the stall count is 10
abbrev pub test_by : Bool → Bool → Bool → Bool → Option Reason
test_by l e w t = cond l (Some PivotLost) (cond e (Some GapSmall) (cond w (cond t (Some Stalled) None) (Some LimitSpent)))

-- of r, in document 01's order
abbrev pub test_of : Run → Float → ℕ → Option Reason
test_of r tol max_iter = test_by r.lost (le r.gap (tol ⊗ r.primal)) (ltb r.n_iter max_iter) (eqb r.stalled 10)

-- one more iteration can be counted
pub record Countable (r : Run) : Type 0 where
  pub n_iter : r.n_iter + 1 < 2 ^ 64
  pub improvements : r.improvements ≤ r.n_iter
  pub stall : r.stalled ≤ 10

-- an iteration that ends with the gap v is an improvement
abbrev pub improves : Run → Float → Bool
improves r v = lt v (c0·99 ⊗ r.best)

-- what an iteration that ends with P and that gap adds to r
pub record Settled (r : Run) (t₁ step₁ p v : Float) (x : Run) : Type 0 where
  pub t : x.t ≡ t₁
  pub step : x.step ≡ step₁
  pub gap : x.gap ≡ v
  pub primal : x.primal ≡ p
  pub first : x.first ≡ r.first
  pub best : x.best ≡ cond (improves r v) v r.best
  pub n_iter : x.n_iter ≡ r.n_iter + 1
  pub improvements : x.improvements ≡ cond (improves r v) (r.improvements + 1) r.improvements
  pub stall : x.stalled ≡ cond (improves r v) 0 (r.stalled + 1)
  pub lost : x.lost ≡ false

-- after a lost pivot: the iteration counts, and nothing else changes
abbrev pub lost_run : Run → Run
lost_run r = record {
  t = r.t;
  step = r.step;
  gap = r.gap;
  primal = r.primal;
  first = r.first;
  best = r.best;
  n_iter = r.n_iter + 1;
  improvements = r.improvements;
  stalled = r.stalled;
  lost = true;
}

-- what an iteration asks
pub record Turnable (k : ℕ) (y dy : List Float) (lam : Float) (s d : List Float) (r : Run) : Type 0 where
  pub ready : Ready k y dy (search_area (length y)) (length s)
  pub room : length y - k ≤ length d
  pub counts : Countable r
  pub standing : Standing k y lam s d r

-- one iteration: of the definition's search from s₀ and r what is left from s and x is left
pub record Turned (k : ℕ) (g y : List Float) (lam : Float) (s₀ s d₀ d : List Float) (r x : Run) : Type 0 where
  pub ahead : (tol : Float) (j : ℕ) → le r.gap (tol ⊗ r.primal) ≡ false → eqb r.stalled 10 ≡ false
      → run (problem k g y lam) tol (suc j) (point_of k y s₀ r) ≡ left_of (problem k g y lam) tol j (point_of k y s x) x.lost
  pub standing : Standing k y lam s d x
  pub n_iter : x.n_iter ≡ r.n_iter + 1
  pub improvements : x.improvements ≤ r.improvements + 1
  pub stall : x.stalled ≤ r.stalled + 1
  pub kept : Kept 0 (search_area (length y)) s₀ s
  pub dual_kept : Kept 0 (length y - k) d₀ d

-- where the definition's search ends
abbrev pub search_of : ℕ → List Float → Float → Float → ℕ → Ended State
search_of k y lam tol max_iter = interior_point k (gram_row k) (length y - k) y lam tol max_iter

-- its certificate
abbrev pub end_of : ℕ → List Float → Float → Float → ℕ → Certificate
end_of k y lam tol max_iter = certify k y lam (search_of k y lam tol max_iter).state.point.z

-- the whole search: the point that it ended at stands in s after its trend, and clamped in d; r has its gaps and counts, and why it ended
pub record Found (k : ℕ) (y : List Float) (lam tol : Float) (max_iter : ℕ) (s₀ s d₀ d : List Float) (r : code.Ended) : Type 0 where
  pub ends : point_in k y s ≡ (search_of k y lam tol max_iter).state.point
  pub trend : part 0 (length y) s ≡ (end_of k y lam tol max_iter).trend
  pub dual : part 0 (length y - k) d ≡ (end_of k y lam tol max_iter).zc
  pub gap : r.run.gap ≡ gap_of (end_of k y lam tol max_iter)
  pub primal : r.run.primal ≡ (end_of k y lam tol max_iter).primal
  pub first : r.run.first ≡ (search_of k y lam tol max_iter).first
  pub best : r.run.best ≡ (search_of k y lam tol max_iter).best
  pub n_iter : r.run.n_iter ≡ (search_of k y lam tol max_iter).n_iter
  pub improvements : r.run.improvements ≡ (search_of k y lam tol max_iter).improvements
  pub reason : r.reason ≡ (search_of k y lam tol max_iter).reason
  pub kept : Kept 0 (search_area (length y)) s₀ s
  pub dual_kept : Kept 0 (length y - k) d₀ d

-- the state after an iteration with t, whose line search ended as e
abbrev pub landed : Float → State → Float → Trial → State
landed lam s t e = record { point = next_point lam s.point e; t = t; step = e.step }
