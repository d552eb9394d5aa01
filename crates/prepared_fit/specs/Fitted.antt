-- What the fit of a prepared series asks of the buffers, and what it leaves in them. n is the length of the series. For the contracts between our own crates.
use Rattle.std.specs.Prelude.{◌≡◌, List, ℕ, ◌≤◌, length, Float, Some, None}
use Rattle.std.specs.Prelude as rust
use Rattle.std.proofs.Math.Option.{Option, none, some}
use Rattle.vectors.specs.Vec.{KeptOf}
use Rattle.vectors.specs.Parts.{Kept}
use Rattle.differences.specs.Series.{Series}
use Rattle.gram.specs.Prepared.{preparation}
use Rattle.decomposition.specs.Written.{Decomposed}
use Rattle.questions.specs.Questions.{Asked}
use Rattle.fit.specs.Outputs.{Outputs}
use Rattle.fit.specs.Fit.{Found, path, written, outcome, after}
use Rattle.closed_paths.specs.declared.Trend.{Trend}
use Rattle.closed_paths.specs.Trends.{path_area, path_marks, reach}
use Rattle.closed_paths.specs.Taken.{AsksPath}
use Rattle.prepared_fit.specs.declared.Tally.{Tally}

-- a trend that stands in w, and room for what is written of it
pub record AsksOut (k : ℕ) (y w : List Float) (t : Trend) (b : Decomposed) : Type 0 where
  pub series : Series k (length y)
  pub stands : reach t (length y) ≤ length w
  pub trend : length y ≤ length b.trend
  pub cycle : length y ≤ length b.cycle
  pub knots : length y ≤ length b.knots

-- the series is prepared, top is lam_max, and there is room in every buffer
pub record AsksFit (k penalty : ℕ) (y : List Float) (top : Float) (b : Outputs) (w : List Float) (marks : List ℕ) : Type 0 where
  pub path : AsksPath k penalty y top w b.cycle (length b.dual) marks
  pub trend : length y ≤ length b.trend
  pub knots : length y ≤ length b.knots

-- what is answered of what a path found
unfoldable pub tallied : Asked → Option Found → rust.Option Tally
tallied a none = None
tallied a (some f) = Some (record { knots = length (written a f).knots; numbers = f.numbers })

-- the answer r, and the buffers before and after: work changed only in the path's area behind the preparation, marks only in those that it takes
pub record Fitted (a : Asked) (r : rust.Option Tally) (b c : Outputs) (w₀ w : List Float) (marks₀ marks : List ℕ) : Type 0 where
  pub tally : r ≡ tallied a (path a)
  pub out : c ≡ after (outcome a (path a)) b
  pub work : Kept (preparation (length a.y)) (path_area a.penalty (length a.y)) w₀ w
  pub marked : KeptOf 0 0 (path_marks a.penalty (length a.y)) marks₀ marks
