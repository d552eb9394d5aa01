-- What the search and its polish leave in their area. n is the length of the series. For the contracts between our own crates.
use Rattle.std.specs.Prelude.{◌≡◌, Bool, cond, List, ℕ, ◌-◌, length, Float}
use Rattle.vectors.specs.Vec.{KeptOf}
use Rattle.vectors.specs.Parts.{Kept, part}
use Rattle.dual_point.specs.Lanes.{candidate_trend, search_area}
use Rattle.questions.specs.Questions.{Asked}
use Rattle.questions.specs.Asking.{asking}
use Rattle.fit.specs.Fit.{places, search_of, path_end}
use Rattle.closed_paths.specs.declared.Trend.TheVariants.{Won}
use Rattle.closed_paths.specs.declared.Finding.{Finding}
use Rattle.closed_paths.specs.Trends.{search_marks}

-- r has the numbers of the path, and says which of the two trends in the area s is its trend: the candidate's or the iterate's, at the start; d begins with its dual point
pub record Reached (a : Asked) (s d : List Float) (r : Finding) : Type 0 where
  pub second : Bool
  pub place : r.trend ≡ Won second
  pub trend : cond second (part (candidate_trend (length a.y)) (length a.y) s) (part 0 (length a.y) s) ≡ (path_end a (search_of a)).trend
  pub dual : part 0 (places a) d ≡ (path_end a (search_of a)).dual
  pub numbers : r.numbers ≡ (path_end a (search_of a)).numbers

-- the same for whatever penalty is asked; all else in the area's run and in d is as found, and so are the marks behind the first 2·n
pub record SearchedArea (y : List Float) (lam tol : Float) (max_iter k : ℕ) (s₀ s d₀ d : List Float) (marks₀ marks : List ℕ) (r : Finding) : Type 0 where
  pub reached : (penalty : ℕ) → Reached (asking y lam tol max_iter k penalty) s d r
  pub kept : Kept 0 (search_area (length y)) s₀ s
  pub dual_kept : Kept 0 (length y - k) d₀ d
  pub marked : KeptOf 0 0 (search_marks (length y)) marks₀ marks
