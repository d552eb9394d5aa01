-- Document 02, A8: corrections to an hour, and what is proved of the week that they leave (`Rattle.records.proofs.Corrections` proves it).
use Rattle.std.specs.Prelude.{◌≡◌, Bool, true, false, cond, ◌&&◌, ℕ, ◌≤◌, ◌<◌, length, get_or, set, eqb, ltb}
use mathlib.Core.List.{List, [], ◌∷◌, ◌++◌, foldl}
use Rattle.std.proofs.Math.Option
use Rattle.std.proofs.Math.Option.{Option, none, some, or_else}
use Rattle.framing.specs.Bytes.{number_at}
use Rattle.framing.specs.Frames.{Rec}
use Rattle.overrun.specs.Overrun.{overrun}
use Rattle.records.specs.Entries.{Slot, silent, sounding, Entry, slot, frames, settings, correction, entries}
use Rattle.records.specs.Positions.{Everywhere, Somewhere, Hour, hours_among, slots_of, count_kind}

-- the week so far and one entry more: an hour is its next slot; a correction replaces the slot that it names, which then sounds
unfoldable pub extended : List Slot → Entry → List Slot
extended ws (slot w) = ws ++ (w ∷ [])
extended ws (frames f) = ws ++ (sounding (overrun f) ∷ [])
extended ws (settings st) = ws
extended ws (correction p x) = set ws p (sounding x)

-- the week that entries make, in file order
abbrev pub week_of : List Entry → List Slot
week_of es = foldl extended [] es

-- whether an entry names a slot of the week so far, if it is a correction
unfoldable pub names : List Slot → Entry → Bool
names ws (slot w) = true
names ws (frames f) = true
names ws (settings st) = true
names ws (correction p x) = ltb p (length ws)

-- whether every entry does, of those that follow the week so far
unfoldable pub named_from : List Slot → List Entry → Bool
named_from ws [] = true
named_from ws (e ∷ es) = names ws e && named_from (extended ws e) es

-- question 17: every correction names the position of an earlier hour, sounding or silent
abbrev pub named : List Entry → Bool
named es = named_from [] es

-- what the last correction of position p says
unfoldable pub last_correction : ℕ → List Entry → Option Slot
last_correction p [] = none
last_correction p (slot w ∷ es) = last_correction p es
last_correction p (frames f ∷ es) = last_correction p es
last_correction p (settings st ∷ es) = last_correction p es
last_correction p (correction q x ∷ es) = or_else (last_correction p es) (cond (eqb q p) (some (sounding x)) none)

-- what is proved of the week of any file, with the records rs that say es
pub record Corrected (rs : List Rec) (es : List Entry) : Type 0 where
  -- the slots are as many as the hours
  pub count : length (week_of es) ≡ hours_among rs
  -- the position of an hour counts the hours before it, P being all records before it, and there stands what it says
  pub hour : (P Q : List Rec) (r : Rec) (w : Slot) → Hour r w → rs ≡ P ++ r ∷ Q → get_or (slots_of es) (hours_among P) silent ≡ w
  -- a slot holds its last correction, or what its hour said
  pub last : named es ≡ true → (p : ℕ) → get_or (week_of es) p silent ≡ Option.get_or (last_correction p es) (get_or (slots_of es) p silent)
  -- 17 is asked of the file: where it is answered yes each correction has the position of an earlier hour, and else one has not
  pub right : named es ≡ true → Everywhere 4 (λ P b. number_at 0 2 b < hours_among P) rs
  pub wrong : named es ≡ false → Somewhere 4 (λ P b. hours_among P ≤ number_at 0 2 b) rs
  -- without corrections the week is what its hours say, as in A1
  pub without : count_kind 4 rs ≡ 0 → (week_of es ≡ slots_of es) × (named es ≡ true)

-- so for the records of every file
abbrev pub CorrectedInFile : Type 0
CorrectedInFile = (rs : List Rec) (es : List Entry) → entries rs ≡ some es → Corrected rs es
