-- What the contracts of the code cite: the listing of what is shown, whose trend, cycle and knots stand first in longer arrays; ps has the position of each hour.
use Rattle.std.specs.Prelude.{ℕ, ◌<◌, cond, List, ◌++◌, get_or, take, Float}
use Rattle.search.specs.Reasons.{reason_number}
use Rattle.fields.specs.Fields.{field}
use Rattle.lines.specs.Lines.{three, fit_line, numbers_line, hour_lines, knot_lines}
use Rattle.lines.specs.Positions.{positions_at}
use Rattle.listing.specs.declared.Shown.{Shown}

unfoldable pub shown_line : Shown → List ℕ
shown_line f =
    fit_line (three f.n f.order f.penalty ++ three f.n_iter f.improvements (cond f.converged 1 0) ++ field (reason_number f.reason))

-- the lines of the first n hours, and of the first n knots
abbrev pub first_hours : List ℕ → List Float → List Float → ℕ → List ℕ
first_hours ps trend cycle n = hour_lines (take n ps) (take n trend) (take n cycle)

abbrev pub first_knots : List ℕ → List ℕ → ℕ → List ℕ
first_knots ps knots n = knot_lines (positions_at ps (take n knots))

-- the first n knots are places below m
abbrev pub Below : List ℕ → ℕ → ℕ → Type 0
Below knots n m = (i : ℕ) → i < n → get_or knots i 0 < m

unfoldable pub shown_listing : Shown → List ℕ → List Float → List Float → List ℕ → List ℕ
shown_listing f ps trend cycle knots =
    shown_line f ++ numbers_line f.lam_max f.gap f.objective ++ first_hours ps trend cycle f.n ++ first_knots ps knots f.knots
