-- Document 01, "The weekly program": questions 11, 12 and 13, with 17 of document 02 (A8) before 13 and 22 (A14) after it, and what an input that passes them says.
use Rattle.std.specs.Prelude.{ℕ, Bool, cond, List, [], ◌∷◌, length, ltb, leb, eqb}
use Rattle.std.proofs.Math.Option.{Option, none, some, bind}
use Rattle.framing.specs.Frames.{records}
use Rattle.records.specs.Entries.{Slot, Entry, slot, frames, settings, correction, entries, count_settings, hours_of}
use Rattle.records.specs.Corrections.{week_of, named}
use Rattle.records.specs.Rates.{rated}
use Rattle.records.specs.declared.Settings.{Settings}

-- what is read: a refusal's number, or the settings and the week
pub data Reading : Type 0 where
  unread : ℕ → Reading
  read : Settings → List Slot → Reading

-- what the input says: what its records say, where it splits into records
abbrev pub entries_in : List ℕ → Option (List Entry)
entries_in s = bind (records s) entries

-- 13: at most 168 hours. 22: every rate counts (document 02, A14), as `all-rated` says
abbrev pub ask_hours : Settings → List Slot → Bool → Reading
ask_hours st ws all-rated = cond (leb (length (hours_of ws)) 168) (cond all-rated (read st ws) (unread 22)) (unread 13)

-- 12: the first record is the settings and no other is. 17: every correction names an earlier hour (document 02, A8). Then 13 and 22
unfoldable pub ask_entries : Option (List Entry) → Reading
ask_entries none = unread 11
ask_entries (some []) = unread 12
ask_entries (some (slot w ∷ es)) = unread 12
ask_entries (some (frames f ∷ es)) = unread 12
ask_entries (some (correction p x ∷ es)) = unread 12
ask_entries (some (settings st ∷ es)) = cond (eqb (count_settings es) 0) (cond (named es) (ask_hours st (week_of es) (rated es)) (unread 17)) (unread 12)

-- 11: at most 4,096 bytes, and whole records only. The first question answered no gives its number
unfoldable pub read_week : List ℕ → Reading
read_week s = cond (ltb 4096 (length s)) (unread 11) (ask_entries (entries_in s))
