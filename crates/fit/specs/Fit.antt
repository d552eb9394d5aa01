-- Document 01, "Questions before and during a fit" and "Polish, knots, closed paths": the whole fit, from what is asked and lent to its outcome: the questions, the pivots of D D', the path, and what is written out. k is the order, m = n - k.
use Rattle.std.specs.Prelude.{Bool, true, cond, ◌&&◌, List, ℕ, ◌-◌, ◌≤◌, ◌≡◌, eqb, length, Float}
use Rattle.std.proofs.Math.Option.{Option, none, some}
use Rattle.std.specs.Float.Ieee.{lt, le, eq}
use Rattle.float64.specs.Helpers.{is_finite}
use Rattle.float64.specs.Ops.{◌⊗◌, c0}
use Rattle.vectors.specs.Vec.{list, put}
use Rattle.differences.specs.Diff.{diff_k, gram_row}
use Rattle.banded.specs.Rows.{sound}
use Rattle.gram.specs.Gram.{gram, zstar, lam_max}
use Rattle.certificate.specs.Certificate.{Certificate, certify, gap_of, minus}
use Rattle.decomposition.specs.Knots.{knots}
use Rattle.search.specs.declared.Reason.TheVariants.{ClosedPath}
use Rattle.search.specs.Search.{Ended}
use Rattle.interior_point.specs.InteriorPoint.{State, interior_point}
use Rattle.polish.specs.Polish.{polish}
use Rattle.l2.specs.L2.{sound_l2, trend_l2, scaled, objective_l2, gap_l2}
use Rattle.questions.specs.Questions.{Asked, Lent, question}
use Rattle.fit.specs.declared.Numbers.{Numbers}
use Rattle.fit.specs.Outputs.{Outputs, outputs}

-- what a path finds: the trend, the dual point that is handed out with it, and its numbers, a struct of src/lib.rt
pub record Found : Type 0 where
  pub trend : List Float
  pub dual : List Float
  pub numbers : Numbers

-- a fit: every place that it writes outside work and marks, and all its numbers
pub record FitResult : Type 0 where
  pub trend : List Float
  pub cycle : List Float
  pub knots : List ℕ
  pub dual : List Float
  pub lam_max : Float
  pub numbers : Numbers

-- a refusal's number, or a fit
pub data Outcome : Type 0 where
  refused : ℕ → Outcome
  fitted : FitResult → Outcome

-- m: how many places D y has
abbrev pub places : Asked → ℕ
places a = length a.y - a.order

-- lam_max
abbrev pub lam_max_of : Asked → Float
lam_max_of a = lam_max a.order (gram_row a.order) (places a) a.y

-- the certificate at the dual point z
abbrev pub certificate_at : Asked → List Float → Certificate
certificate_at a z = certify a.order a.y a.lam z

-- the numbers of a closed path: converged true, n_iter 0, improvements 0, first and best gap equal gap; no search was made
abbrev pub closed : Float → Float → Numbers
closed gap objective = record { gap = gap; first_gap = gap; best_gap = gap; objective = objective; n_iter = 0; improvements = 0; converged = true; reason = ClosedPath }

-- L2, with lam·D x; none where a pivot of its system is bad
unfoldable pub path_l2 : Asked → Option Found
path_l2 a =
    let k = a.order in
    let x = trend_l2 k a.y a.lam in
    cond (sound_l2 k a.y a.lam) (some (record { trend = x; dual = scaled a.lam (diff_k k x); numbers = closed (gap_l2 k a.y a.lam x) (objective_l2 k a.y a.lam x) })) none

-- L1 with lam 0 or -0: the trend is y, the dual point +0 at each place, gap and objective are 0
unfoldable pub path_zero : Asked → Found
path_zero a = record { trend = a.y; dual = list (places a) (λ i. c0); numbers = closed c0 c0 }

-- L1 with lam ≥ lam_max: the certificate at z*, and the clamped z*
unfoldable pub path_flat : Asked → Found
path_flat a = let c = certificate_at a (zstar a.order (gram_row a.order) (places a) a.y) in record { trend = c.trend; dual = c.zc; numbers = closed (gap_of c) c.primal }

-- whether the candidate's certificate replaces the iterate's: only if its gap is finite and strictly smaller
abbrev pub replaces : Certificate → Certificate → Bool
replaces p c = is_finite (gap_of p) && lt (gap_of p) (gap_of c)

-- the certificate that is kept, of the iterate's and the candidate's, if there is one
unfoldable pub polished : Asked → Certificate → Option (List Float) → Certificate
polished a c none = c
polished a c (some z) = let p = certificate_at a z in cond (replaces p c) p c

-- where the search ended
unfoldable pub search_of : Asked → Ended State
search_of a = interior_point a.order (gram_row a.order) (places a) a.y a.lam a.tol a.max_iter

-- the certificate that is kept, from that end
unfoldable pub kept_of : Asked → Ended State → Certificate
kept_of a e = let k = a.order in polished a (certificate_at a e.state.point.z) (polish k (gram_row k) (diff_k k a.y) a.lam e.state.point)

-- L1 with 0 < lam < lam_max: the search that ended at e, then the polish; trend and dual point are those of the certificate that is kept
unfoldable pub path_end : Asked → Ended State → Found
path_end a e =
    let c = kept_of a e in
    record {
      trend = c.trend;
      dual = c.zc;
      numbers = record { gap = gap_of c; first_gap = e.first; best_gap = e.best; objective = c.primal; n_iter = e.n_iter; improvements = e.improvements; converged = le (gap_of c) (a.tol ⊗ c.primal); reason = e.reason };
    }

-- L1: lam 0 or -0, which is asked first; lam ≥ lam_max; the search
unfoldable pub path_l1 : Asked → Found
path_l1 a = cond (eq a.lam c0) (path_zero a) (cond (le (lam_max_of a) a.lam) (path_flat a) (path_end a (search_of a)))

-- by the penalty
unfoldable pub path : Asked → Option Found
path a = cond (eqb a.penalty 2) (path_l2 a) (some (path_l1 a))

-- what is written of a path: its trend, the cycle y - x, the knots of D x, its dual point, with lam_max and its numbers
unfoldable pub written : Asked → Found → FitResult
written a f = record { trend = f.trend; cycle = minus a.y f.trend; knots = knots a.order a.y (diff_k a.order f.trend); dual = f.dual; lam_max = lam_max_of a; numbers = f.numbers }

-- number 10 where the path met a bad pivot
unfoldable pub outcome : Asked → Option Found → Outcome
outcome a none = refused 10
outcome a (some f) = fitted (written a f)

-- the first question answered no; else 10 where a pivot of D D' is bad; else what the path gives
unfoldable pub fit : Asked → Lent → Outcome
fit a l =
    let k = a.order in
    cond (eqb (question a l) 0) (cond (sound k (gram k (gram_row k)) (places a)) (outcome a (path a)) (refused 10)) (refused (question a l))

-- how many places a fit writes: n of trend and of cycle, at most m of knots, m of dual
pub record Lengths (a : Asked) (f : FitResult) : Type 0 where
  pub trend : length f.trend ≡ length a.y
  pub cycle : length f.cycle ≡ length a.y
  pub knots : length f.knots ≤ places a
  pub dual : length f.dual ≡ places a

-- trend, cycle, knots and dual, which held b: as found after a refusal; after a fit their first places hold the fit's, and all later ones what they held
unfoldable pub after : Outcome → Outputs → Outputs
after (refused q) b = b
after (fitted f) b = outputs (put b.trend 0 f.trend) (put b.cycle 0 f.cycle) (put b.knots 0 f.knots) (put b.dual 0 f.dual)
