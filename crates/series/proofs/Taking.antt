-- From the tests of `take_hours` and the slots that were read to a reading. Assumes nothing.
use mathlib.Core.Path.{◌≡◌, refl, sym, ap, ◌∙◌}
use mathlib.Core.Bool.{Bool, true, false}
use Prim.Native.Nat.{ℕ, ◌≤◌, ◌<◌}
use native.Mathlib.Omega.{arith}
use mathlib.Core.List.{List}
use lib.ListN.{length, take}
use lib.Ieee.{Float}
use borrow.Author.Tests.{le-leb, lt-leb}
use Rattle.vectors.proofs.Texts.{wrote_length, wrote_take}
use Rattle.records.specs.Entries.{Slot, Entry, hours_of}
use Rattle.records.specs.Corrections.{week_of, named}
use Rattle.records.specs.Rates.{rated}
use Rattle.records.specs.Positions.{positions_of}
use Rattle.records.specs.Week.{Reading, unread, read, ask_hours}
use Rattle.records.specs.declared.Settings.{Settings}
use Rattle.series.specs.declared.Gathered.{Gathered}
use Rattle.series.specs.declared.Week.{Week}
use Rattle.series.specs.declared.Refusal.{Refusal}
use Rattle.series.specs.Inner.{refusal_number, numbered, answer, Reads, slot_of, slots_in, ReadSlots, WroteHours}
use Rattle.std.specs.Prelude.{Option, Some, None, Result, Ok, Err, IsErr, IsErrAnd}
use Rattle.std.specs.Result.{result_ok}
use Rattle.std.specs.Option.{ok_or}
use Rattle.std.proofs.lemmas.List.{length-map, take-map}
use Rattle.float64.proofs.Clash.{impossible}

-- questions 13 and 22
pub hours_many : (st : Settings) (ws : List Slot) (r : Bool) → 168 < length (hours_of ws) → ask_hours st ws r ≡ unread 13
hours_many st ws r h = simp (lt-leb _ _ h)

pub hours_unrated : (st : Settings) (ws : List Slot) (r : Bool) → length (hours_of ws) ≤ 168 → r ≡ false → ask_hours st ws r ≡ unread 22
hours_unrated st ws r h e = simp (le-leb _ _ h, e)

pub hours-rated : (st : Settings) (ws : List Slot) (r : Bool) → length (hours_of ws) ≤ 168 → r ≡ true → ask_hours st ws r ≡ read st ws
hours-rated st ws r h e = simp (le-leb _ _ h, e)

-- a refusal, as the contract has it, and a week that is taken
pub refuses : (a : Reading) (r : Result Week Refusal) {k : ℕ} {y : List Float} {q : List ℕ} → a ≡ unread k → numbered r ≡ answer (unread k) → Reads a r y y q q
refuses a r e n = rw e (record { said = n; wrote = refl; positions = refl })

pub refuses_as : (a : Reading) (r : Refusal) {y : List Float} {q : List ℕ} → a ≡ unread (refusal_number r) → Reads a (Err r) y y q q
refuses_as a r e = refuses a (Err r) e refl

pub refused : (a : Reading) (r : Refusal) (w : Result Week Refusal) {y : List Float} {q : List ℕ} → IsErr w → IsErrAnd w (λ x. x ≡ r) → a ≡ unread (refusal_number r) → Reads a w y y q q
refused a r (Ok w) h k e = impossible cc
refused a r (Err x) h k e = rw k (refuses_as a r e)

-- what `ok_or` was given
pub taken : {A : Type 0} (o : Option A) {r : Result A Refusal} {x : A} → o ≡ result_ok r → r ≡ Ok x → o ≡ Some x
taken o h e = rw e at h

pub left_out : {A : Type 0} (o : Option A) (e : Refusal) {r : Result A Refusal} {x : Refusal} → r ≡ ok_or o e → r ≡ Err x → (o ≡ None) × (x ≡ e)
left_out None e {r} {x} h g = (refl, let f : x ≡ e = cc in f)
left_out (Some y) e h g = impossible cc

pub takes : (a : Reading) {st : Settings} {ws : List Slot} {y z : List Float} {q u : List ℕ} {n : ℕ} → a ≡ read st ws → WroteHours (hours_of ws) (positions_of ws) 0 y z q u n → Reads a (Ok (record { settings = st; n = n })) y z q u
takes a {st} {ws} {y} {z} {q} {u} {n} e w =
    let m : n ≡ length (hours_of ws) = omega (arith, w.hours.next) in
    rw e (record { said = ap (λ (k : ℕ). Ok (record { settings = st; n = k })) m; wrote = w.hours.text; positions = w.positions.text })

-- the week of entries, held by the first slots
pub record Held (es : List Entry) (ts : List (Option Float)) (r : Gathered) : Type 0 where
  pub week : slots_in (take r.n ts) ≡ week_of es
  pub slots : r.n ≤ length ts
  pub few : r.n ≤ 1024
  pub names : r.named ≡ named es
  pub rates : r.rated ≡ rated es

pub held : {es : List Entry} {W₀ : List Slot} (ts : List (Option Float)) {r : Gathered} → ReadSlots es W₀ (slots_in ts) r → Held es ts r
held ts {r} w = record {
  week = sym (take-map slot_of r.n ts) ∙ (wrote_take w.week).0;
  slots = omega (arith, w.week.room, wrote_length w.week, length-map ts slot_of);
  few = w.few;
  names = w.names;
  rates = w.rates;
}
