-- Laws of positions, which specs/Positions.antt states. Assumes nothing.
use mathlib.Core.Path.{◌≡◌, refl, ap, ◌∙◌}
use mathlib.Core.Bool.{cond}
use Prim.Native.Nat.{ℕ, zero, suc, ◌+◌, ◌≤◌, ◌<◌}
use native.Mathlib.Omega.{arith}
use mathlib.Core.List.{List, [], ◌∷◌, ◌++◌}
use mathlib.Core.Option.{Option, none, some}
use lib.ListN.{length, get_or, take}
use lib.Dec.{eqb}
use lib.Ieee.{Float}
use Rattle.float64.proofs.Clash.{impossible}
use Rattle.vectors.specs.Vec.{at, list}
use Rattle.vectors.proofs.Laws.{list_is, list_ext}
use Rattle.framing.specs.Frames.{Rec, rec}
use Rattle.overrun.specs.Overrun.{frames_in, overrun}
use Rattle.records.specs.Entries.{Slot, silent, sounding, Entry, milliseconds_in, both, entry_of, entries, hours_of}
use Rattle.records.specs.Positions.{positions_from, positions_of, HasPosition, Positions, Somewhere, Hour, in_milliseconds, in_silence, in_frames, slots_of, count_kind, sounding_among, hours_among, PositionsInFile}
use Rattle.records.specs.Inner.{Says, hour, quiet, setup, repair, framed}
use Rattle.records.proofs.Entries.{entry_says}

-- one position for each sounding hour
each_one : (p : ℕ) (ws : List Slot) → length (positions_from p ws) ≡ length (hours_of ws)
unfolding positions_from hours_of
each_one p [] = refl
each_one p (silent ∷ ws) = each_one (suc p) ws
each_one p (sounding x ∷ ws) = ap suc (each_one (suc p) ws)

-- q is r slots past p, and r is the position of place i
record Past (p : ℕ) (ws : List Slot) (i q : ℕ) : Type 0 where
  r : ℕ
  is : q ≡ p + r
  stands : HasPosition ws i r

past : (p : ℕ) (ws : List Slot) (i : ℕ) → i < length (hours_of ws) → Past p ws i (get_or (positions_from p ws) i 0)
unfolding positions_from hours_of
past p [] i h = absurd (omega arith)
past p (silent ∷ ws) i h =
    let w = past (suc p) ws i h in
    record { r = suc w.r; is = omega (arith, w.is); stands = record { sounds = w.stands.sounds; before = w.stands.before } }
past p (sounding x ∷ ws) zero h = record { r = 0; is = omega arith; stands = record { sounds = refl; before = refl } }
past p (sounding x ∷ ws) (suc i) h =
    let w = past (suc p) ws i (omega arith) in
    record { r = suc w.r; is = omega (arith, w.is); stands = record { sounds = w.stands.sounds; before = ap suc w.stands.before } }

placed : (ws : List Slot) (i : ℕ) → i < length (hours_of ws) → HasPosition ws i (get_or (positions_of ws) i 0)
placed ws i h =
    let w = past 0 ws i h in
    let e : get_or (positions_of ws) i 0 ≡ w.r = omega (arith, w.is) in
    rw e w.stands

-- a slot that sounds is the place that counts the sounding ones before it
some_place : (p : ℕ) (ws : List Slot) (q : ℕ) (x : Float) → get_or ws q silent ≡ sounding x
    → let i = length (hours_of (take q ws)) in (i < length (hours_of ws)) × (get_or (positions_from p ws) i 0 ≡ p + q)
unfolding positions_from hours_of
some_place p [] q x e = impossible cc
some_place p (silent ∷ ws) zero x e = impossible cc
some_place p (silent ∷ ws) (suc q) x e = let w = some_place (suc p) ws q x e in (w.0, omega (arith, w.1))
some_place p (sounding y ∷ ws) zero x e = (omega arith, omega arith)
some_place p (sounding y ∷ ws) (suc q) x e = let w = some_place (suc p) ws q x e in (omega (arith, w.0), omega (arith, w.1))

rise : (p : ℕ) (ws : List Slot) (i j : ℕ) → i < j → j < length (positions_from p ws) → get_or (positions_from p ws) i 0 < get_or (positions_from p ws) j 0
unfolding positions_from hours_of
rise p [] i j h k = absurd (omega arith)
rise p (silent ∷ ws) i j h k = rise (suc p) ws i j h k
rise p (sounding x ∷ ws) i zero h k = absurd (omega arith)
rise p (sounding x ∷ ws) zero (suc j) h k = omega (arith, (past (suc p) ws j (omega (arith, each_one (suc p) ws))).is)
rise p (sounding x ∷ ws) (suc i) (suc j) h k = rise (suc p) ws i j (omega arith) (omega arith)

bounded : (p : ℕ) (ws : List Slot) (i : ℕ) → i < length (positions_from p ws) → get_or (positions_from p ws) i 0 < p + length ws
unfolding positions_from
bounded p [] i h = absurd (omega arith)
bounded p (silent ∷ ws) i h = omega (arith, bounded (suc p) ws i h)
bounded p (sounding x ∷ ws) zero h = omega arith
bounded p (sounding x ∷ ws) (suc i) h = omega (arith, bounded (suc p) ws i (omega arith))

-- no more hours sound than there are
few_sound : (ws : List Slot) → length (hours_of ws) ≤ length ws
unfolding hours_of
few_sound [] = omega arith
few_sound (silent ∷ ws) = omega (arith, few_sound ws)
few_sound (sounding x ∷ ws) = omega (arith, few_sound ws)

all_sound : (p : ℕ) (ws : List Slot) → length (hours_of ws) ≡ length ws → (i : ℕ) → i < length ws → get_or (positions_from p ws) i 0 ≡ p + i
unfolding positions_from hours_of
all_sound p [] e i h = absurd (omega arith)
all_sound p (silent ∷ ws) e i h = absurd (omega (arith, few_sound ws))
all_sound p (sounding x ∷ ws) e zero h = omega arith
all_sound p (sounding x ∷ ws) e (suc i) h = omega (arith, all_sound (suc p) ws (omega arith) i (omega arith))

own_places : (ws : List Slot) → length (hours_of ws) ≡ length ws → positions_of ws ≡ list (length ws) (λ i. i)
own_places ws e =
    let n = each_one 0 ws ∙ e in
    list_is 0 (positions_of ws) ∙ ap (λ (m : ℕ). list m (λ i. get_or (positions_of ws) i 0)) n ∙ list_ext (length ws) _ (λ i. i) (λ i h. omega (arith, all_sound 0 ws e i h))

pub week_positions : (ws : List Slot) → Positions ws
week_positions ws = record {
  each = each_one 0 ws;
  place = placed ws;
  every = λ p x e. let w = some_place 0 ws p x e in (w.0, omega (arith, w.1));
  rising = record { below = λ i h. omega (arith, bounded 0 ws i h); strictly = rise 0 ws };
  none_silent = own_places ws;
}

-- an entry and then others, where there are both
record Parted (r : Option Entry) (rs : Option (List Entry)) (es : List Entry) : Type 0 where
  first : Entry
  rest : List Entry
  one : r ≡ some first
  more : rs ≡ some rest
  all : es ≡ first ∷ rest

parted : (r : Option Entry) (rs : Option (List Entry)) (es : List Entry) → both r rs ≡ some es → Parted r rs es
parted none rs es e = impossible cc
parted (some a) none es e = impossible cc
parted (some a) (some t) es e = record { first = a; rest = t; one = refl; more = refl; all = (let f : es ≡ a ∷ t = cc in f) }

-- records that say entries, each its own
pub data AllSay : List Rec → List Entry → Type 0 where
  end : AllSay [] []
  next : {k n : ℕ} {b : List ℕ} {e : Entry} {rs : List Rec} {es : List Entry} → Says k n b e → AllSay rs es → AllSay (rec k b ∷ rs) (e ∷ es)

pub all_say : (rs : List Rec) (es : List Entry) → entries rs ≡ some es → AllSay rs es
unfolding entries
all_say [] es h = rw (let f : es ≡ [] = cc in f) end
all_say (rec k b ∷ rs) es h =
    let w = parted (entry_of (rec k b)) (entries rs) es h in
    rw w.all (next (entry_says k b w.first w.one) (all_say rs w.rest w.more))

-- some record, by what it also has, and after one record more
pub weaker : {k : ℕ} {R S : List Rec → List ℕ → Type 0} {rs : List Rec} → ((P : List Rec) (b : List ℕ) → R P b → S P b) → Somewhere k R rs → Somewhere k S rs
weaker f w = record { P = w.P; b = w.b; Q = w.Q; is = w.is; has = f w.P w.b w.has }

pub later : {k : ℕ} {R : List Rec → List ℕ → Type 0} {rs : List Rec} (r : Rec) → Somewhere k (λ P b. R (r ∷ P) b) rs → Somewhere k R (r ∷ rs)
later r w = record { P = r ∷ w.P; b = w.b; Q = w.Q; is = ap (λ (t : List Rec). r ∷ t) w.is; has = w.has }

-- the slots that a record says
slots_said : Rec → List Slot
slots_said (rec k b) = cond (eqb k 1) (sounding (milliseconds_in b) ∷ []) (cond (eqb k 2) (silent ∷ []) (cond (eqb k 5) (sounding (overrun (frames_in b)) ∷ []) []))

says_slots : {k n : ℕ} {b : List ℕ} {e : Entry} (t : List Entry) → Says k n b e → slots_of (e ∷ t) ≡ slots_said (rec k b) ++ slots_of t
unfolding slots_of slots_said
says_slots t (hour k n e) = rw (e, k)
says_slots t (quiet k n e) = rw (e, k)
says_slots t (setup k n e) = rw (e, k)
says_slots t (repair k n e) = rw (e, k)
says_slots t (framed k n e) = rw (e, k)

hour_slot : {r : Rec} {w : Slot} → Hour r w → slots_said r ≡ w ∷ []
unfolding slots_said
hour_slot (in_milliseconds b) = refl
hour_slot (in_silence b) = refl
hour_slot (in_frames b) = refl

pub hour_says : {k n : ℕ} {b : List ℕ} {w : Slot} {e : Entry} (t : List Entry) → Hour (rec k b) w → Says k n b e → slots_of (e ∷ t) ≡ w ∷ slots_of t
hour_says t h s = says_slots t s ∙ ap (λ (v : List Slot). v ++ slots_of t) (hour_slot h)

-- what `InFile` says, of a week whose first slot has position p: place i is x, and its slot comes after q others
record From (p i q : ℕ) (x : Float) (ws : List Slot) : Type 0 where
  inside : i < length (hours_of ws)
  milliseconds : at (hours_of ws) i ≡ x
  position : get_or (positions_from p ws) i 0 ≡ p + q

from_first : (p : ℕ) (x : Float) (ws : List Slot) → From p 0 0 x (sounding x ∷ ws)
unfolding positions_from hours_of
from_first p x ws = record { inside = omega arith; milliseconds = refl; position = omega arith }

-- after one slot more
from_sounding : {p i j q r : ℕ} {x y : Float} {ws : List Slot} → From (suc p) i q x ws → j ≡ suc i → r ≡ suc q → From p j r x (sounding y ∷ ws)
unfolding positions_from hours_of
from_sounding w e g = rw (e, g) (record { inside = omega (arith, w.inside); milliseconds = w.milliseconds; position = w.position ∙ omega arith })

from_silent : {p i j q r : ℕ} {x : Float} {ws : List Slot} → From (suc p) i q x ws → j ≡ i → r ≡ suc q → From p j r x (silent ∷ ws)
unfolding positions_from hours_of
from_silent w e g = rw (e, g) (record { inside = w.inside; milliseconds = w.milliseconds; position = w.position ∙ omega arith })

-- the place and the slots before it, of an hour after the records P
abbrev FromRecords : ℕ → List Rec → Float → List Slot → Type 0
FromRecords p P x ws = From p (sounding_among P) (hours_among P) x ws

from_more : {k n : ℕ} {c : List ℕ} {e : Entry} (p : ℕ) (P : List Rec) (x : Float) (t : List Entry) → Says k n c e → ((q : ℕ) → FromRecords q P x (slots_of t)) → FromRecords p (rec k c ∷ P) x (slots_of (e ∷ t))
unfolding slots_of count_kind
from_more p P x t (hour k l h) f = rw (h, k) (from_sounding (f (suc p)) (omega arith) (omega arith))
from_more p P x t (quiet k l h) f = rw (h, k) (from_silent (f (suc p)) (omega arith) (omega arith))
from_more p P x t (setup k l h) f = rw (h, k) (f p)
from_more p P x t (repair k l h) f = rw (h, k) (f p)
from_more p P x t (framed k l h) f = rw (h, k) (from_sounding (f (suc p)) (omega arith) (omega arith))

from : (P Q : List Rec) (r : Rec) (x : Float) {es : List Entry} → Hour r (sounding x) → AllSay (P ++ r ∷ Q) es → (p : ℕ) → FromRecords p P x (slots_of es)
unfolding count_kind
from [] Q (rec k b) x h (next {es} s t) p = rw (hour_says es h s) (from_first p x (slots_of es))
from (rec j c ∷ P) Q r x h (next {es} s t) p = from_more p P x es s (from P Q r x h t)

pub positions_in_file : PositionsInFile
positions_in_file P Q r x es h e = let w = from P Q r x h (all_say _ es e) 0 in record { inside = w.inside; milliseconds = w.milliseconds; position = omega (arith, w.position) }
