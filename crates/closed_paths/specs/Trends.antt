-- Where the trend of a path stands, and what a path's answer says with it. n is the length of the series. For the contracts between our own crates.
use Rattle.std.specs.Prelude.{cond, List, ℕ, ◌+◌, ◌-◌, ◌*◌, eqb, length, Float}
use Rattle.std.specs.Prelude as code
use Rattle.std.proofs.Math.Option.{Option, none, some}
use Rattle.vectors.specs.Parts.{part}
use Rattle.gram.specs.Prepared.{preparation}
use Rattle.dual_point.specs.Lanes.{candidate_trend, search_area}
use Rattle.fit.specs.Fit.{Found}
use Rattle.closed_paths.specs.declared.Trend.{Trend}
use Rattle.closed_paths.specs.declared.Trend.TheVariants.{Series, Solution, Won}
use Rattle.closed_paths.specs.declared.Finding.{Finding}

-- L2's trend: the rows of its system end there
abbrev pub solution_lane : ℕ → ℕ
solution_lane n = 8 * n

-- the area of L2 behind the preparation: the rows, at most 3·n places, and the trend
abbrev pub ridge_area : ℕ → ℕ
ridge_area n = 4 * n

-- the area of a path behind the preparation, by the penalty
abbrev pub path_area : ℕ → ℕ → ℕ
path_area penalty n = cond (eqb penalty 2) (ridge_area n) (search_area n)

-- the marks that a search's polish takes
abbrev pub search_marks : ℕ → ℕ
search_marks n = 2 * n

-- the marks that a path takes
abbrev pub path_marks : ℕ → ℕ → ℕ
path_marks penalty n = cond (eqb penalty 2) 0 (search_marks n)

-- the trend in the run w
unfoldable pub trend_of : List Float → List Float → Trend → List Float
trend_of y w Series = y
trend_of y w Solution = part (solution_lane (length y)) (length y) w
trend_of y w (Won second) =
    let n = length y in
    cond second (part (preparation n + candidate_trend n) n w) (part (preparation n) n w)

-- how many places of w hold it
unfoldable pub reach : Trend → ℕ → ℕ
reach Series n = 0
reach Solution n = solution_lane n + n
reach (Won second) n = preparation n + search_area n

-- what was found for the order k, with the trend in w and the dual point at the start of d
abbrev pub found_of : ℕ → List Float → List Float → List Float → Finding → Found
found_of k y w d f = record { trend = trend_of y w f.trend; dual = part 0 (length y - k) d; numbers = f.numbers }

-- what an answer says: nothing was found, or this
unfoldable pub said : ℕ → List Float → List Float → List Float → code.Option Finding → Option Found
said k y w d code.None = none
said k y w d (code.Some f) = some (found_of k y w d f)

-- the reach of an answer
unfoldable pub reached : code.Option Finding → ℕ → ℕ
reached code.None n = 0
reached (code.Some f) n = reach f.trend n
