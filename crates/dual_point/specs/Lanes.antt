-- The lanes of the area that a search and its polish run in, for a series of n places. First the iterate's trend, n places; then z, mu1, mu2, the trial point and
-- the Newton system. When the search is over all but the point is spent, and the polish takes the places from `settle_lane` on. For the contracts between our own crates.
use Rattle.std.specs.Prelude.{ℕ, ◌*◌}

-- the polish's compressed system and its right side, at most 4·n places
abbrev pub settle_lane : ℕ → ℕ
settle_lane n = 7 * n

-- the candidate's trend, n places
abbrev pub candidate_trend : ℕ → ℕ
candidate_trend n = 11 * n

-- the candidate, at most n places
abbrev pub candidate_lane : ℕ → ℕ
candidate_lane n = 12 * n

-- the polish's lanes together
abbrev pub polish_area : ℕ → ℕ
polish_area n = 6 * n

-- the whole area
abbrev pub search_area : ℕ → ℕ
search_area n = 13 * n
