-- A walk over the entries of an input: what has been passed, and what the next step makes of it. Assumes nothing.
use mathlib.Core.Path.{◌≡◌, refl, sym, ap, ap₂, ◌∙◌}
use mathlib.Core.Bool.{Bool, true, false}
use mir.Val.{bool_byte}
use Prim.Native.Nat.{ℕ, ◌+◌, ◌≤◌}
use native.Mathlib.Omega.{arith}
use mathlib.Core.List.{List, [], ◌∷◌, ◌++◌, append_assoc, append-nil}
use mathlib.Core.Option.{Option, none, some, map}
use lib.ListN.{length, drop}
use lib.Dec.{eqb}
use Rattle.records.specs.Entries.{Entry, slot, frames, settings, correction, count_settings}
use Rattle.records.specs.Week.{entries_in}
use Rattle.std.specs.Prelude as P
use Rattle.float64.proofs.Clash.{impossible}
use Rattle.framing.specs.declared.NoRecord.{NoRecord}
use Rattle.records.specs.Inner.{Found, tally_of}
use Rattle.records.proofs.Entries.{says_count}

-- P, and then what is still to come
abbrev onto : List Entry → Option (List Entry) → Option (List Entry)
onto P o = map (λ (t : List Entry). P ++ t) o

onto_nil : (o : Option (List Entry)) → o ≡ onto [] o
onto_nil none = refl
onto_nil (some t) = refl

onto_more : (P : List Entry) (e : Entry) (o : Option (List Entry)) → onto P (map (λ (t : List Entry). e ∷ t) o) ≡ onto (P ++ (e ∷ [])) o
onto_more P e none = refl
onto_more P e (some t) = ap some (sym (append_assoc P (e ∷ []) t))

-- the entries P have been passed, and the next record starts at `at`
pub record Passed (s : List ℕ) (at : ℕ) (P : List Entry) : Type 0 where
  rest : entries_in s ≡ onto P (entries_in (drop at s))

pub passed_none : (s : List ℕ) → Passed s 0 []
passed_none s = record { rest = onto_nil (entries_in s) }

module _ {s : List ℕ} {at : ℕ} {P : List Entry} (p : Passed s at P) where
  pub passed_end : entries_in (drop at s) ≡ some [] → entries_in s ≡ some P
  passed_end e = p.rest ∙ ap (onto P) e ∙ ap some (append-nil P)

  pub passed_bad : entries_in (drop at s) ≡ none → entries_in s ≡ none
  passed_bad e = p.rest ∙ ap (onto P) e

  pub passed_more : {k b n : ℕ} (f : Found s at k b n) → Passed s n (P ++ (f.entry ∷ []))
  passed_more {k} {b} {n} f = record { rest = p.rest ∙ ap (onto P) f.rest ∙ onto_more P f.entry (entries_in (drop n s)) }

-- the answer of a walk that meets no record
pub walk_err : (o : Option (List Entry)) (r : P.Result ℕ NoRecord) → P.IsErr r → o ≡ none → r ≡ tally_of o
walk_err o (P.Ok m) e h = impossible cc
walk_err o (P.Err x) e h = rw h refl

-- what more entries add to the count of settings
count_append : (P Q : List Entry) → count_settings (P ++ Q) ≡ count_settings P + count_settings Q
unfolding count_settings
count_append [] Q = omega arith
count_append (slot w ∷ P) Q = count_append P Q
count_append (frames f ∷ P) Q = count_append P Q
count_append (settings st ∷ P) Q = omega (arith, count_append P Q)
count_append (correction p x ∷ P) Q = count_append P Q

-- the count of a walk, so far
pub record Counted (s : List ℕ) (at m : ℕ) : Type 0 where
  pub done : List Entry
  pub passed : Passed s at done
  pub settings : m ≡ count_settings done
  pub inside : at ≤ length s
  pub few : m ≤ at

pub counted_none : (s : List ℕ) → Counted s 0 0
unfolding count_settings
counted_none s = record { done = []; passed = passed_none s; settings = refl; inside = omega arith; few = omega arith }

-- a truth counts at most one
pub at_most_one : (b : Bool) → bool_byte b ≤ 1
at_most_one true = omega arith
at_most_one false = omega arith

pub counted_more : {s : List ℕ} {at m k b n : ℕ} → Counted s at m → Found s at k b n → Counted s n (m + bool_byte (eqb k 3))
counted_more {s} {at} {m} {k} {b} {n} c f =
    let one = f.entry ∷ [] in
    record {
      done = c.done ++ one;
      passed = passed_more c.passed f;
      settings = ap₂ (λ (i j : ℕ). i + j) c.settings (sym (says_count f.says)) ∙ sym (count_append c.done one);
      inside = f.inside;
      few = omega (arith, c.few, f.body, f.more, at_most_one (eqb k 3));
    }
