-- Document 02, A7, of the weekly program: its buffers are enough (`Rattle.week.proofs.Room` proves it).
use Rattle.std.specs.Prelude.{◌≡◌, List, ◌≤◌, length, Float}
use Rattle.questions.specs.Questions.{needs_for, room}
use Rattle.records.specs.declared.Settings.{Settings}
use Rattle.week.specs.Week.{asked_by, week_lent}

-- For every series of at most 168 hours, whatever its settings, questions 8 and 9 are answered yes.
abbrev pub WeekRoom : Type 0
WeekRoom = (st : Settings) (y : List Float) → length y ≤ 168 → room (length y) (needs_for (asked_by st y)) week_lent ≡ 0
