-- What the contracts of the code cite: answers as the code gives them, and what stands at a place.
use Rattle.std.specs.Prelude.{◌≡◌, ℕ, ◌+◌, ◌-◌, ◌≤◌, Bool, false, cond, List, [], ◌∷◌, length, take, drop, eqb}
use Rattle.std.specs.Prelude as P
use Rattle.std.proofs.Math.Option.{Option, none, some, map}
use Rattle.framing.specs.Bytes.{number_at}
use Rattle.framing.specs.declared.NoRecord.{NoRecord}
use Rattle.overrun.specs.Overrun.{frames_in}
use Rattle.records.specs.Entries.{Entry, slot, frames, settings, correction, silent, sounding, milliseconds_in, settings_in, count_settings}
use Rattle.records.specs.Week.{entries_in}
use Rattle.records.specs.declared.Settings.{Settings}
use Rattle.records.specs.declared.Record.{Record}
use Rattle.records.specs.declared.Kind.{Kind}
use Rattle.records.specs.declared.Kind.TheVariants as kind

-- the answer of `walk`
abbrev pub tally_of : Option (List Entry) → P.Result ℕ NoRecord
tally_of none = P.Err (record {})
tally_of (some es) = P.Ok (count_settings es)

-- the settings that come first
abbrev pub opening_of : List Entry → P.Option Settings
opening_of [] = P.None
opening_of (slot w ∷ es) = P.None
opening_of (frames f ∷ es) = P.None
opening_of (correction p x ∷ es) = P.None
opening_of (settings st ∷ es) = P.Some st

-- the kind with a number, if there is one
abbrev pub kind_of : ℕ → P.Result Kind NoRecord
kind_of k = cond (eqb k 1) (P.Ok kind.Hour) (cond (eqb k 2) (P.Ok kind.Silence) (cond (eqb k 3) (P.Ok kind.Settings) (cond (eqb k 4) (P.Ok kind.Correction) (cond (eqb k 5) (P.Ok kind.Frames) (P.Err (record {}))))))

-- a kind's number, and the size of its bodies
abbrev pub kind_number : Kind → ℕ
kind_number kind.Hour = 1
kind_number kind.Silence = 2
kind_number kind.Settings = 3
kind_number kind.Correction = 4
kind_number kind.Frames = 5

abbrev pub size_of : Kind → ℕ
size_of kind.Hour = 4
size_of kind.Silence = 0
size_of kind.Settings = 26
size_of kind.Correction = 6
size_of kind.Frames = 12

-- whether a kind has bodies of n bytes
abbrev pub known : ℕ → ℕ → Bool
known k n = cond (eqb k 1) (eqb n 4) (cond (eqb k 2) (eqb n 0) (cond (eqb k 3) (eqb n 26) (cond (eqb k 4) (eqb n 6) (cond (eqb k 5) (eqb n 12) false))))

-- an entry, by the kind and the size of its record's body
pub data Says (k n : ℕ) (b : List ℕ) (e : Entry) : Type 0 where
  hour : k ≡ 1 → n ≡ 4 → e ≡ slot (sounding (milliseconds_in b)) → Says k n b e
  quiet : k ≡ 2 → n ≡ 0 → e ≡ slot silent → Says k n b e
  setup : k ≡ 3 → n ≡ 26 → e ≡ settings (settings_in b) → Says k n b e
  repair : k ≡ 4 → n ≡ 6 → e ≡ correction (number_at 0 2 b) (milliseconds_in (drop 2 b)) → Says k n b e
  framed : k ≡ 5 → n ≡ 12 → e ≡ frames (frames_in b) → Says k n b e

-- a record that says an entry stands at a place, its body from b up to n, where the next records start
pub record Found (s : List ℕ) (at k b n : ℕ) : Type 0 where
  pub entry : Entry
  pub body : b ≡ at + 4
  pub more : b ≤ n
  pub inside : n ≤ length s
  pub says : Says k (n - b) (take (n - b) (drop b s)) entry
  pub rest : entries_in (drop at s) ≡ map (λ (es : List Entry). entry ∷ es) (entries_in (drop n s))

-- the entries from a place on, by what stands there
abbrev pub Stands : List ℕ → ℕ → P.Result (P.Option Record) NoRecord → Type 0
Stands s at (P.Ok P.None) = entries_in (drop at s) ≡ some []
Stands s at (P.Ok (P.Some r)) = Found s at (kind_number r.kind) r.body r.next
Stands s at (P.Err e) = entries_in (drop at s) ≡ none
