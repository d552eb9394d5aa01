-- Document 01, "The weekly program": kind 1, an hour of signed 4-byte milliseconds; kind 2, a silent hour, empty; kind 3, settings: lam, tol (8 bytes each, bits of a double), max_iter (8), order, penalty (1 each). Document 02: kind 4, a correction, a two-byte position and milliseconds (A8); kind 5, an hour in frames (A14).
use Rattle.std.specs.Prelude.{ℕ, suc, zero, cond, List, [], ◌∷◌, length, drop, eqb, Float}
use Rattle.std.proofs.Math.Option.{Option, none, some, map}
use Rattle.std.specs.Float.{binary64}
use Rattle.std.specs.Float.Ieee.{of_bits, of_int}
use Rattle.framing.specs.Bytes.{number_at, signed32}
use Rattle.framing.specs.Frames.{Rec, rec}
use Rattle.overrun.specs.Overrun.{Frames, frames_in}
use Rattle.records.specs.declared.Settings.{Settings}

-- an hour of the week: silent, or sounding with its milliseconds
pub data Slot : Type 0 where
  silent : Slot
  sounding : Float → Slot

-- what a record says
pub data Entry : Type 0 where
  slot : Slot → Entry
  frames : Frames → Entry
  settings : Settings → Entry
  correction : ℕ → Float → Entry

-- the milliseconds of an hour: a signed number of 4 bytes, as a double
abbrev pub milliseconds_in : List ℕ → Float
milliseconds_in b = of_int binary64 (signed32 (number_at 0 4 b))

-- the settings; each NaN's pattern is the NaN
unfoldable pub settings_in : List ℕ → Settings
settings_in b = record { lam = of_bits binary64 (number_at 0 8 b); tol = of_bits binary64 (number_at 8 8 b); max_iter = number_at 16 8 b; order = number_at 24 1 b; penalty = number_at 25 1 b }

-- what a body of n bytes says; none where it has not n
abbrev pub sized : ℕ → List ℕ → Entry → Option Entry
sized n b e = cond (eqb (length b) n) (some e) none

-- what a record says; none where it is of no known kind or not of its kind's length
unfoldable pub entry_of : Rec → Option Entry
entry_of (rec k b) =
    cond (eqb k 1) (sized 4 b (slot (sounding (milliseconds_in b))))
    (cond (eqb k 2) (sized 0 b (slot silent))
    (cond (eqb k 3) (sized 26 b (settings (settings_in b)))
    (cond (eqb k 4) (sized 6 b (correction (number_at 0 2 b) (milliseconds_in (drop 2 b))))
    (cond (eqb k 5) (sized 12 b (frames (frames_in b)))
    none))))

-- one entry and then others, where there are both
abbrev pub both : Option Entry → Option (List Entry) → Option (List Entry)
both none es = none
both (some e) es = map (λ (t : List Entry). e ∷ t) es

-- what all records say
unfoldable pub entries : List Rec → Option (List Entry)
entries [] = some []
entries (r ∷ rs) = both (entry_of r) (entries rs)

-- how many entries are settings
unfoldable pub count_settings : List Entry → ℕ
count_settings [] = zero
count_settings (slot w ∷ es) = count_settings es
count_settings (frames f ∷ es) = count_settings es
count_settings (correction p x ∷ es) = count_settings es
count_settings (settings st ∷ es) = suc (count_settings es)

-- the series: the sounding hours, closed up
unfoldable pub hours_of : List Slot → List Float
hours_of [] = []
hours_of (silent ∷ ws) = hours_of ws
hours_of (sounding x ∷ ws) = x ∷ hours_of ws
