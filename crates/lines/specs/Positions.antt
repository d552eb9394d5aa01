-- Document 02, A1: a listing prints positions, and a knot is a place of the series.
use Rattle.std.specs.Prelude.{ℕ, List, map, get_or}

-- the positions of the places ks, where ps has the position of each place
abbrev pub positions_at : List ℕ → List ℕ → List ℕ
positions_at ps ks = map (λ (k : ℕ). get_or ps k 0) ks
