-- A walk over the entries that gathers the week: what the next one makes of its slots. Assumes nothing.
use mathlib.Core.Path.{◌≡◌, refl, sym, ap, ap₂, ◌∙◌}
use mathlib.Core.Bool.{Bool, true, not, ◌&&◌, and-true, and_assoc}
use Prim.Native.Nat.{ℕ, ◌+◌, ◌*◌, ◌≤◌, ◌<◌}
use native.Mathlib.Omega.{arith}
use native.Mathlib.Nat.{add-zero, zero-add}
use mathlib.Core.List.{List, [], ◌∷◌, ◌++◌, foldl, foldl-append}
use mathlib.Core.Option.{none, some}
use mathlib.Core.Logic.{◌⊎◌, inl, inr}
use lib.ListN.{length, take, drop, set}
use lib.Ieee.{Float, binary64, of_int, of_bits, is_nan}
use Rattle.overrun.proofs.Numbers.{whole_number, overrun_number}
use Rattle.float64.specs.Ops.{c0}
use Rattle.float64.proofs.Clash.{impossible}
use Rattle.framing.specs.Bytes.{number_at, signed32}
use Rattle.framing.proofs.Numbers.{number_of_part}
use Rattle.vectors.specs.Parts.{Wrote}
use Rattle.vectors.proofs.Texts.{wrote_none, wrote_one, wrote_then, wrote_set}
use Rattle.records.specs.Entries.{Slot, silent, sounding, Entry}
use Rattle.records.specs.Corrections.{extended, week_of, names, named_from, named}
use Rattle.records.specs.Rates.{rates, rated}
use Rattle.records.specs.Week.{entries_in}
use Rattle.records.specs.declared.Kind.{Kind}
use Rattle.records.specs.declared.Kind.TheVariants as kind
use Rattle.records.specs.Inner.{kind_number, Says, hour, quiet, setup, repair, framed, Found}
use Rattle.records.proofs.Passing.{Passed, passed_none, passed_end, passed_bad, passed_more}
use Rattle.series.specs.Inner.{slots_at, milliseconds_at, said_at, slots_once, names_at, ReadSlots}

-- question 17 over entries and one more
named-append : (ws : List Slot) (P : List Entry) (e : Entry) → named_from ws (P ++ (e ∷ [])) ≡ (named_from ws P && names (foldl extended ws P) e)
unfolding named_from
named-append ws [] e = and-true (names ws e)
named-append ws (d ∷ P) e = ap (λ (a : Bool). names ws d && a) (named-append (extended ws d) P e) ∙ sym (and_assoc (names ws d) (named_from (extended ws d) P) (names (foldl extended (extended ws d) P) e))

-- question 22 over entries and one more
rated-append : (P : List Entry) (e : Entry) → rated (P ++ (e ∷ [])) ≡ (rated P && rates e)
unfolding rated
rated-append [] e = and-true (rates e)
rated-append (d ∷ P) e = ap (λ (a : Bool). rates d && a) (rated-append P e) ∙ sym (and_assoc (rates d) (rated P) (rates e))

zero_number : not (is_nan c0) ≡ true
unfolding is_nan of_bits
zero_number = refl

-- an hour that sounds, and how its record does it
pub sounds_once : (s : List ℕ) (k : Kind) (b : ℕ) (x : Float) (n : ℕ) (W : List Slot) → (k ≡ kind.Hour) ⊎ (k ≡ kind.Frames) → slots_once s (kind_number k) b x n W ≡ set W n (sounding x)
sounds_once s k b x n W (inl e) = rw e refl
sounds_once s k b x n W (inr e) = rw e refl

-- an entry and the record that says it make the same of the slots
module _ (s : List ℕ) (b : ℕ) where
  milliseconds_in_lem : (m a : ℕ) → a + 4 ≤ m → of_int binary64 (signed32 (number_at a 4 (take m (drop b s)))) ≡ milliseconds_at s (b + a)
  milliseconds_in_lem m a h = ap (λ (n : ℕ). of_int binary64 (signed32 n)) (number_of_part s b m a 4 h)

  -- what a record says is a number, but for a rate that question 22 refuses
  said_number : {k m : ℕ} {e : Entry} → Says k m (take m (drop b s)) e → not (is_nan (said_at s k b)) ≡ rates e
  unfolding rates
  said_number (hour k m e) = rw (e, k) (ap not (whole_number _))
  said_number (quiet k m e) = rw (e, k) zero_number
  said_number (setup k m e) = rw (e, k) zero_number
  said_number (repair k m e) = rw (e, k) (ap not (whole_number _))
  said_number (framed k m e) = rw (e, k, m) (overrun_number _)

  module _ {ws W₀ W : List Slot} {n : ℕ} (w : Wrote W₀ 0 ws W n) where
    says-names : {k m : ℕ} {e : Entry} → Says k m (take m (drop b s)) e → names ws e ≡ names_at s k b n
    unfolding names
    says-names (hour k m e) = rw (e, k)
    says-names (quiet k m e) = rw (e, k)
    says-names (setup k m e) = rw (e, k)
    says-names {k} {m} (repair kind size e) = rw (e, kind, number_of_part s b m 0 2 (omega (arith, size)), add-zero b, w.next, zero-add)
    says-names (framed k m e) = rw (e, k)

    says_slots : {k m : ℕ} {e : Entry} → n < length W → Says k m (take m (drop b s)) e → Wrote W₀ 0 (extended ws e) (slots_once s k b (said_at s k b) n W) (n + slots_at k)
    unfolding extended
    says_slots {k} {m} h (hour kind size e) = rw (e, kind, milliseconds_in_lem m 0 (omega (arith, size)), add-zero b) (wrote_then w (wrote_one W n _ h))
    says_slots h (quiet kind size e) = rw (e, kind) (wrote_then w (wrote_one W n silent h))
    says_slots h (setup kind size e) = rw (e, kind, add-zero n) w
    says_slots {k} {m} h (repair kind size e) = rw (e, kind, milliseconds_in_lem m 2 (omega (arith, size)), number_of_part s b m 0 2 (omega (arith, size)), add-zero b, add-zero n) (wrote_set _ _ w)
    says_slots h (framed kind size e) = rw (e, kind, size) (wrote_then w (wrote_one W n _ h))

-- the week passed so far stands in the first of the slots W, which were W₀
pub record Slotted (s : List ℕ) (at : ℕ) (W₀ W : List Slot) (n : ℕ) (all counts : Bool) : Type 0 where
  pub done : List Entry
  pub passed : Passed s at done
  pub week : Wrote W₀ 0 (week_of done) W n
  pub names : all ≡ named done
  pub rates : counts ≡ rated done
  pub inside : at ≤ length s
  pub few : 4 * n ≤ at

pub slotted_none : (s : List ℕ) (W : List Slot) → Slotted s 0 W W 0 true true
unfolding named_from rated
slotted_none s W = record { done = []; passed = passed_none s; week = wrote_none W 0 (omega arith); names = refl; rates = refl; inside = omega arith; few = omega arith }

module _ {s : List ℕ} {at : ℕ} {W₀ W : List Slot} {n : ℕ} {all counts : Bool} (w : Slotted s at W₀ W n all counts) where
  pub slotted_more : {k b next r : ℕ} {U : List Slot} {x : Float} {one : Bool} → Found s at k b next → n < length W → x ≡ said_at s k b → U ≡ slots_once s k b x n W → one ≡ names_at s k b n → (r ≡ slots_at k) × (r ≤ 1)
      → Slotted s next W₀ U (n + r) (all && one) (counts && not (is_nan x))
  slotted_more {k} {b} {next} {r} {U} {x} {one} f h g v a e =
      let last = f.entry ∷ [] in
      record {
        done = w.done ++ last;
        passed = passed_more w.passed f;
        week = rw (foldl-append extended [] w.done last, v, g, e.0) (says_slots s b w.week h f.says);
        names = ap₂ (λ (x y : Bool). x && y) w.names (a ∙ sym (says-names s b w.week f.says)) ∙ sym (named-append [] w.done f.entry);
        rates = ap₂ (λ (y z : Bool). y && z) w.rates (ap (λ (y : Float). not (is_nan y)) g ∙ said_number s b f.says) ∙ sym (rated-append w.done f.entry);
        inside = f.inside;
        few = omega (arith, w.few, e.1, f.body, f.more);
      }

  pub slotted_all : length s ≤ 4096 → entries_in (drop at s) ≡ some [] → (es : List Entry) → entries_in s ≡ some es → ReadSlots es W₀ W (record { n = n; named = all; rated = counts })
  slotted_all l e es h =
      let d : w.done ≡ es = cc (passed_end w.passed e) in
      rw (sym d) (record { week = w.week; few = omega (arith, w.few, w.inside); names = w.names; rates = w.rates })

  pub slotted_bad : entries_in (drop at s) ≡ none → (es : List Entry) → entries_in s ≡ some es → ReadSlots es W₀ W (record { n = n; named = all; rated = counts })
  slotted_bad e es h = impossible (cc (passed_bad w.passed e))

  -- a slot more has its place
  pub slotted_room : {k b next : ℕ} → Found s at k b next → length s ≤ 4096 → n < 1024
  slotted_room f h = omega (arith, w.few, f.body, f.more, f.inside)
