-- What the contracts of the code cite: answers as the code gives them, and slots as it keeps them.
use Rattle.std.specs.Prelude.{◌≡◌, ℕ, ◌+◌, ◌≤◌, Bool, true, cond, List, length, set, take, drop, eqb, ltb, Float, map, Option, Some, None, Result, Ok, Err}
use Rattle.std.specs.Float.{binary64}
use Rattle.std.specs.Float.Ieee.{of_int}
use Rattle.float64.specs.Ops.{c0}
use Rattle.vectors.specs.Vec.{put}
use Rattle.vectors.specs.Parts.{Wrote}
use Rattle.framing.specs.Bytes.{number_at, signed32}
use Rattle.overrun.specs.Overrun.{frames_in, overrun}
use Rattle.records.specs.Entries.{Slot, Entry, silent, sounding, hours_of}
use Rattle.records.specs.Corrections.{week_of, named}
use Rattle.records.specs.Rates.{rated}
use Rattle.records.specs.Positions.{positions_of}
use Rattle.records.specs.Week.{Reading, unread, read}
use Rattle.series.specs.declared.Gathered.{Gathered}
use Rattle.series.specs.declared.Refusal.{Refusal}
use Rattle.series.specs.declared.Refusal.TheVariants.{NoRecords, WrongSettings, TooManyHours, NoEarlierHour, WrongRate}
use Rattle.series.specs.declared.Week.{Week}

-- the number of a refusal, and a result with the number in its place
abbrev pub refusal_number : Refusal → ℕ
refusal_number NoRecords = 11
refusal_number WrongSettings = 12
refusal_number TooManyHours = 13
refusal_number NoEarlierHour = 17
refusal_number WrongRate = 22

abbrev pub numbered : {A : Type 0} → Result A Refusal → Result A ℕ
numbered (Ok x) = Ok x
numbered (Err r) = Err (refusal_number r)

-- the answer of `read_week`
abbrev pub answer : Reading → Result Week ℕ
answer (unread k) = Err k
answer (read st ws) = Ok (record { settings = st; n = length (hours_of ws) })

-- what stands in a lent slice then: after a refusal what it held, else what f gives of the week, in its first places
abbrev pub lent_with : {A : Type 0} → (List Slot → List A) → Reading → List A → List A
lent_with f (unread k) y = y
lent_with f (read st ws) y = put y 0 (f ws)

pub record Reads (a : Reading) (r : Result Week Refusal) (y₀ y : List Float) (q₀ q : List ℕ) : Type 0 where
  pub said : numbered r ≡ answer a
  pub wrote : y ≡ lent_with hours_of a y₀
  pub positions : q ≡ lent_with positions_of a q₀

-- how many slots a record of kind k is
abbrev pub slots_at : ℕ → ℕ
slots_at k = cond (eqb k 1) 1 (cond (eqb k 2) 1 (cond (eqb k 5) 1 0))

-- slots as the code keeps them: the milliseconds of each, or none where it is silent
abbrev pub slot_of : Option Float → Slot
slot_of (Some x) = sounding x
slot_of None = silent

abbrev pub slots_in : List (Option Float) → List Slot
slots_in ts = map slot_of ts

-- milliseconds at a place of the input
abbrev pub milliseconds_at : List ℕ → ℕ → Float
milliseconds_at s b = of_int binary64 (signed32 (number_at b 4 s))

-- what a record of kind k says in milliseconds, its body starting at b: +0 where it says none
abbrev pub said_at : List ℕ → ℕ → ℕ → Float
said_at s k b = cond (eqb k 1) (milliseconds_at s b) (cond (eqb k 4) (milliseconds_at s (b + 2)) (cond (eqb k 5) (overrun (frames_in (take 12 (drop b s)))) c0))

-- slots W once the correction to x milliseconds whose body starts at b is made, if it names one of the first n
abbrev pub corrected_at : List ℕ → ℕ → Float → ℕ → List Slot → List Slot
corrected_at s b x n W = cond (ltb (number_at b 2 s) n) (set W (number_at b 2 s) (sounding x)) W

-- slots W, of which the first n have been read, once the record of kind k is whose body starts at b and says x; and whether it names one of them, if it is a correction
abbrev pub slots_once : List ℕ → ℕ → ℕ → Float → ℕ → List Slot → List Slot
slots_once s k b x n W = cond (eqb k 1) (set W n (sounding x)) (cond (eqb k 5) (set W n (sounding x)) (cond (eqb k 2) (set W n silent) (cond (eqb k 4) (corrected_at s b x n W) W)))

abbrev pub names_at : List ℕ → ℕ → ℕ → ℕ → Bool
names_at s k b n = cond (eqb k 4) (ltb (number_at b 2 s) n) true

-- the week of entries stands in the first of the slots W, which were W₀; r says how many slots it has, at most 1,024, whether every correction names an earlier one, and whether every rate counts
pub record ReadSlots (es : List Entry) (W₀ W : List Slot) (r : Gathered) : Type 0 where
  pub week : Wrote W₀ 0 (week_of es) W r.n
  pub few : r.n ≤ 1024
  pub names : r.named ≡ named es
  pub rates : r.rated ≡ rated es

-- hours and their positions were written from place n on, and r is the place past them
pub record WroteHours (hs : List Float) (ps : List ℕ) (n : ℕ) (y₀ y : List Float) (q₀ q : List ℕ) (r : ℕ) : Type 0 where
  pub hours : Wrote y₀ n hs y r
  pub positions : Wrote q₀ n ps q r
