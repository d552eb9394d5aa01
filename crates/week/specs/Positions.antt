-- Document 02, A1, of the listing (`Rattle.week.proofs.Positions` proves it).
use Rattle.std.specs.Prelude.{◌≡◌, ℕ, List, length}
use Rattle.vectors.specs.Vec.{list}
use Rattle.vectors.specs.Rising.{Rising}
use Rattle.questions.specs.Questions.{Asked}
use Rattle.fit.specs.Fit.{FitResult, Outcome, refused, fitted, fit}
use Rattle.records.specs.declared.Settings.{Settings}
use Rattle.records.specs.Entries.{Slot, hours_of}
use Rattle.records.specs.Week.{read, read_week}
use Rattle.records.specs.Positions.{positions_of}
use Rattle.lines.specs.Lines.{refused_line}
use Rattle.lines.specs.Positions.{positions_at}
use Rattle.week.specs.Week.{asked_by, week_lent, listing_of, week_text}

-- the knots that are printed rise strictly, all below the number of slots
abbrev pub KnotPositions : Settings → List Slot → Type 0
KnotPositions st ws = (f : FitResult) → fit (asked_by st (hours_of ws)) week_lent ≡ fitted f → Rising (length ws) (positions_at (positions_of ws) f.knots)

-- what document 01 prints: its hours are numbered 0, 1, .. , n - 1 and its knots as they are, by their places in the series
unfoldable pub closed_up_text : Asked → Outcome → List ℕ
closed_up_text a (refused q) = refused_line q
closed_up_text a (fitted f) = listing_of a f (list (length a.y) (λ i. i)) f.knots

-- that is still what is printed of an input with no silent hour
abbrev pub AsBefore : List ℕ → Type 0
AsBefore s = (st : Settings) (ws : List Slot) → read_week s ≡ read st ws → length (hours_of ws) ≡ length ws → week_text s ≡ closed_up_text (asked_by st (hours_of ws)) (fit (asked_by st (hours_of ws)) week_lent)
