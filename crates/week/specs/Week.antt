-- Document 01, "The weekly program": from the bytes of the input to the bytes that are printed. Questions 11, 12, 17 and 13 come first, then 1 to 10.
use Rattle.std.specs.Prelude.{ℕ, cond, List, ◌++◌, length, Float}
use Rattle.search.specs.Reasons.{reason_number}
use Rattle.questions.specs.Needs.{needs_of}
use Rattle.questions.specs.Questions.{Asked, Lent}
use Rattle.fit.specs.Fit.{FitResult, Outcome, refused, fitted, fit}
use Rattle.records.specs.declared.Settings.{Settings}
use Rattle.records.specs.Entries.{hours_of}
use Rattle.records.specs.Week.{Reading, unread, read, read_week}
use Rattle.records.specs.Positions.{positions_of}
use Rattle.fields.specs.Fields.{field}
use Rattle.lines.specs.Lines.{three, fit_line, numbers_line, hour_lines, knot_lines, refused_line}
use Rattle.lines.specs.Positions.{positions_at}

-- what the settings ask of the fit of a series
abbrev pub asked_by : Settings → List Float → Asked
asked_by st y = record { y = y; lam = st.lam; tol = st.tol; max_iter = st.max_iter; order = st.order; penalty = st.penalty }

-- the lengths lent to it: what L1 needs for 168 hours, so that questions 8 and 9 are always answered yes
abbrev pub week_lent : Lent
week_lent = let need = needs_of 168 1 1 in record { trend = 168; cycle = 168; knots = 168; dual = 168; work = need.work; marks = need.marks }

-- the listing of a fit whose hours have the numbers hs and whose knots have ks: n, order, penalty, n_iter, improvements, converged (0 or 1), reason (0 to 4); lam_max, gap, objective; each hour; each knot
unfoldable pub listing_of : Asked → FitResult → List ℕ → List ℕ → List ℕ
listing_of a f hs ks =
    let s = f.numbers in
    fit_line (three (length a.y) a.order a.penalty ++ three s.n_iter s.improvements (cond s.converged 1 0) ++ field (reason_number s.reason))
    ++ numbers_line f.lam_max s.gap s.objective
    ++ hour_lines hs f.trend f.cycle
    ++ knot_lines ks

-- what is printed of an outcome, where ps has the position of each place: hours and knots have their positions (document 02, A1)
unfoldable pub outcome_text : Asked → List ℕ → Outcome → List ℕ
outcome_text a ps (refused q) = refused_line q
outcome_text a ps (fitted f) = listing_of a f ps (positions_at ps f.knots)

-- the text of a series with these positions under its settings
unfoldable pub fit_text : Settings → List Float → List ℕ → List ℕ
fit_text st y ps = outcome_text (asked_by st y) ps (fit (asked_by st y) week_lent)

-- the text of what is read of the input
unfoldable pub reading_text : Reading → List ℕ
reading_text (unread q) = refused_line q
reading_text (read st ws) = fit_text st (hours_of ws) (positions_of ws)

-- from the input's bytes to the printed bytes
unfoldable pub week_text : List ℕ → List ℕ
week_text s = reading_text (read_week s)
