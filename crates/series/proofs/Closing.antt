-- A walk over slots that closes up the series: what the next slot adds. Assumes nothing.
use mathlib.Core.Path.{◌≡◌, refl, sym, ap, ◌∙◌}
use Prim.Native.Nat.{ℕ, suc, ◌+◌, ◌≤◌, ◌<◌}
use native.Mathlib.Omega.{arith}
use mathlib.Core.List.{List, [], ◌∷◌, ◌++◌}
use lib.ListN.{length, get_or, take, drop, take-append-drop, length-append}
use lib.Seq.{take-suc, take_all, length-take-le}
use lib.Ieee.{Float}
use Rattle.std.specs.Prelude.{Option, None}
use Rattle.std.proofs.lemmas.List.{length-map}
use Rattle.vectors.proofs.Texts.{wrote_none, wrote_then}
use Rattle.records.specs.Entries.{Slot, silent, sounding, hours_of}
use Rattle.records.specs.Positions.{positions_from, positions_of}
use Rattle.series.specs.Inner.{slot_of, slots_in, WroteHours}
use Rattle.series.proofs.Arrays.{slot_at}

-- the series and the positions of slots and then others
hours-append : (v w : List Slot) → hours_of (v ++ w) ≡ hours_of v ++ hours_of w
unfolding hours_of
hours-append [] w = refl
hours-append (silent ∷ v) w = hours-append v w
hours-append (sounding x ∷ v) w = ap (λ (t : List Float). x ∷ t) (hours-append v w)

from_append : (p : ℕ) (v w : List Slot) → positions_from p (v ++ w) ≡ positions_from p v ++ positions_from (p + length v) w
unfolding positions_from
from_append p [] w = ap (λ (q : ℕ). positions_from q w) (omega arith)
from_append p (silent ∷ v) w = from_append (suc p) v w ∙ ap (λ (q : ℕ). positions_from (suc p) v ++ positions_from q w) (omega arith)
from_append p (sounding x ∷ v) w = ap (λ (t : List ℕ). p ∷ t) (from_append (suc p) v w ∙ ap (λ (q : ℕ). positions_from (suc p) v ++ positions_from q w) (omega arith))

-- slot by slot
module _ (ts : List (Option Float)) where
  module _ (i : ℕ) (h : i < length ts) where
    next-slot : take (i + 1) (slots_in ts) ≡ take i (slots_in ts) ++ (slot_of (get_or ts i None) ∷ [])
    next-slot = let e : i + 1 ≡ suc i = omega arith in
        ap (λ (k : ℕ). take k (slots_in ts)) e ∙ take-suc (slots_in ts) i silent (omega (arith, length-map ts slot_of)) ∙ ap (λ (w : Slot). take i (slots_in ts) ++ (w ∷ [])) (slot_at ts i h)

    next-hours : hours_of (take (i + 1) (slots_in ts)) ≡ hours_of (take i (slots_in ts)) ++ hours_of (slot_of (get_or ts i None) ∷ [])
    next-hours = ap hours_of next-slot ∙ hours-append (take i (slots_in ts)) _

    next-positions : positions_of (take (i + 1) (slots_in ts)) ≡ positions_of (take i (slots_in ts)) ++ positions_from i (slot_of (get_or ts i None) ∷ [])
    next-positions =
        ap positions_of next-slot ∙ from_append 0 (take i (slots_in ts)) _
        ∙ ap (λ (p : ℕ). positions_of (take i (slots_in ts)) ++ positions_from p (slot_of (get_or ts i None) ∷ [])) (omega (arith, length-take-le i (slots_in ts) (omega (arith, length-map ts slot_of))))

    -- the next hour has its place
    pub closing-room : (n : ℕ) {c : ℕ} → n ≡ length (hours_of (take i (slots_in ts))) → length (hours_of (slots_in ts)) ≤ c → n + length (hours_of (slot_of (get_or ts i None) ∷ [])) ≤ c
    closing-room n e r =
        let k = i + 1 in
        omega (
          arith,
          e,
          r,
          ap length next-hours,
          length-append (hours_of (take i (slots_in ts))) (hours_of (slot_of (get_or ts i None) ∷ [])),
          ap (λ (v : List Slot). length (hours_of v)) (sym (take-append-drop k (slots_in ts))),
          ap length (hours-append (take k (slots_in ts)) (drop k (slots_in ts))),
          length-append (hours_of (take k (slots_in ts))) (hours_of (drop k (slots_in ts))),
        )

  -- all slots
  pub all_slots : (i : ℕ) → length ts ≤ i → take i (slots_in ts) ≡ slots_in ts
  all_slots i h = take_all i (slots_in ts) (omega (arith, length-map ts slot_of))

-- the hours of the first i slots stand at the start of y, and their positions at the start of q
abbrev pub Closed : List (Option Float) → ℕ → List Float → List Float → List ℕ → List ℕ → ℕ → Type 0
Closed ts i y₀ y q₀ q n = WroteHours (hours_of (take i (slots_in ts))) (positions_of (take i (slots_in ts))) 0 y₀ y q₀ q n

pub closed_none : (ts : List (Option Float)) (y : List Float) (q : List ℕ) → Closed ts 0 y y q q 0
unfolding hours_of positions_from
closed_none ts y q = record { hours = wrote_none y 0 (omega arith); positions = wrote_none q 0 (omega arith) }

pub closed-more : (ts : List (Option Float)) (i : ℕ) {y₀ y z : List Float} {q₀ q u : List ℕ} {n r : ℕ} → i < length ts → Closed ts i y₀ y q₀ q n
    → WroteHours (hours_of (slot_of (get_or ts i None) ∷ [])) (positions_from i (slot_of (get_or ts i None) ∷ [])) n y z q u r → Closed ts (i + 1) y₀ z q₀ u r
closed-more ts i h c w = rw (next-hours ts i h, next-positions ts i h) (record { hours = wrote_then c.hours w.hours; positions = wrote_then c.positions w.positions })
