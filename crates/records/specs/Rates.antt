-- Document 02, A14: question 22 over what the records say, and what is proved of it (`Rattle.records.proofs.Rates` proves it). It is asked of every hour in frames, also of one that a correction supersedes.
use Rattle.std.specs.Prelude.{◌≡◌, Bool, true, false, ◌&&◌, List, [], ◌∷◌}
use Rattle.std.proofs.Math.Option.{some}
use Rattle.framing.specs.Frames.{Rec}
use Rattle.overrun.specs.Overrun.{frames_in, is_rated}
use Rattle.records.specs.Entries.{Entry, slot, frames, settings, correction, entries}
use Rattle.records.specs.Positions.{Everywhere, Somewhere}

-- whether the rate of an entry counts, if it is an hour in frames
unfoldable pub rates : Entry → Bool
rates (slot w) = true
rates (frames f) = is_rated f
rates (settings st) = true
rates (correction p x) = true

-- question 22: every rate counts
unfoldable pub rated : List Entry → Bool
rated [] = true
rated (e ∷ es) = rates e && rated es

-- 22 is asked of the file, with the records rs that say es: where it is answered yes the rate of each record of kind 5 counts, and else one does not
pub record Rated (rs : List Rec) (es : List Entry) : Type 0 where
  pub right : rated es ≡ true → Everywhere 5 (λ P b. is_rated (frames_in b) ≡ true) rs
  pub wrong : rated es ≡ false → Somewhere 5 (λ P b. is_rated (frames_in b) ≡ false) rs

-- so for the records of every file
abbrev pub RatedInFile : Type 0
RatedInFile = (rs : List Rec) (es : List Entry) → entries rs ≡ some es → Rated rs es
