-- Document 02, A1: an hour's position, and what is proved of positions. The fit closes up the series; the listing prints the position of each place.
use Rattle.std.specs.Prelude.{◌≡◌, cond, ℕ, zero, suc, ◌+◌, ◌<◌, List, [], ◌∷◌, ◌++◌, length, get_or, take, eqb, Float}
use Rattle.std.proofs.Math.Option.{some}
use Rattle.vectors.specs.Vec.{at, list}
use Rattle.vectors.specs.Rising.{Rising}
use Rattle.framing.specs.Frames.{Rec, rec}
use Rattle.overrun.specs.Overrun.{frames_in, overrun}
use Rattle.records.specs.Entries.{Slot, silent, sounding, Entry, slot, frames, settings, correction, milliseconds_in, entries, hours_of}

-- the positions of the sounding hours among slots of which the first has position p
unfoldable pub positions_from : ℕ → List Slot → List ℕ
positions_from p [] = []
positions_from p (silent ∷ ws) = positions_from (suc p) ws
positions_from p (sounding x ∷ ws) = p ∷ positions_from (suc p) ws

-- the position of each place of the series: how many slots stand before its own, silent ones too
abbrev pub positions_of : List Slot → List ℕ
positions_of ws = positions_from 0 ws

-- p is the position of place i of the series: the slot there sounds with that place's milliseconds, and i sounding ones stand before it
pub record HasPosition (ws : List Slot) (i p : ℕ) : Type 0 where
  pub sounds : get_or ws p silent ≡ sounding (at (hours_of ws) i)
  pub before : length (hours_of (take p ws)) ≡ i

-- what is proved of the positions of any week
pub record Positions (ws : List Slot) : Type 0 where
  -- there is one for each place of the series, and it is that place's
  pub each : length (positions_of ws) ≡ length (hours_of ws)
  pub place : (i : ℕ) → i < length (hours_of ws) → HasPosition ws i (get_or (positions_of ws) i 0)
  -- a slot that sounds is some place's
  pub every : (p : ℕ) (x : Float) → get_or ws p silent ≡ sounding x → (length (hours_of (take p ws)) < length (hours_of ws)) × (get_or (positions_of ws) (length (hours_of (take p ws))) 0 ≡ p)
  -- they rise strictly, all below the number of slots
  pub rising : Rising (length ws) (positions_of ws)
  -- with no silent hour each place is its own position
  pub none_silent : length (hours_of ws) ≡ length ws → positions_of ws ≡ list (length ws) (λ i. i)

-- the slots that the hours among entries say, in file order; corrections left aside
unfoldable pub slots_of : List Entry → List Slot
slots_of [] = []
slots_of (slot w ∷ es) = w ∷ slots_of es
slots_of (frames f ∷ es) = sounding (overrun f) ∷ slots_of es
slots_of (settings st ∷ es) = slots_of es
slots_of (correction p x ∷ es) = slots_of es

-- how many of the records have kind k
unfoldable pub count_kind : ℕ → List Rec → ℕ
count_kind k [] = zero
count_kind k (rec j b ∷ rs) = cond (eqb j k) (suc (count_kind k rs)) (count_kind k rs)

-- each record of kind k has R, with the body b after the records P
abbrev pub Everywhere : ℕ → (List Rec → List ℕ → Type 0) → List Rec → Type 0
Everywhere k R rs = (P Q : List Rec) (b : List ℕ) → rs ≡ P ++ rec k b ∷ Q → R P b

-- some record of kind k has it
pub record Somewhere (k : ℕ) (R : List Rec → List ℕ → Type 0) (rs : List Rec) : Type 0 where
  pub P : List Rec
  pub b : List ℕ
  pub Q : List Rec
  pub is : rs ≡ P ++ rec k b ∷ Q
  pub has : R P b

-- which records are hours, and the slots that they say: kinds 1, 2 and 5 (A14)
pub data Hour : Rec → Slot → Type 0 where
  in_milliseconds : (b : List ℕ) → Hour (rec 1 b) (sounding (milliseconds_in b))
  in_silence : (b : List ℕ) → Hour (rec 2 b) silent
  in_frames : (b : List ℕ) → Hour (rec 5 b) (sounding (overrun (frames_in b)))

-- how many of the records are hours that sound
abbrev pub sounding_among : List Rec → ℕ
sounding_among rs = count_kind 1 rs + count_kind 5 rs

-- how many are hours, silent ones too
abbrev pub hours_among : List Rec → ℕ
hours_among rs = sounding_among rs + count_kind 2 rs

-- in the file, corrections left aside: the place of an hour counts the sounding ones before it, P being all records before it, and its position all hours before it
pub record InFile (P : List Rec) (x : Float) (ws : List Slot) : Type 0 where
  pub inside : sounding_among P < length (hours_of ws)
  pub milliseconds : at (hours_of ws) (sounding_among P) ≡ x
  pub position : get_or (positions_of ws) (sounding_among P) 0 ≡ hours_among P

-- so for every hour that sounds, with x milliseconds, of every file
abbrev pub PositionsInFile : Type 0
PositionsInFile = (P Q : List Rec) (r : Rec) (x : Float) (es : List Entry) → Hour r (sounding x) → entries (P ++ r ∷ Q) ≡ some es → InFile P x (slots_of es)
