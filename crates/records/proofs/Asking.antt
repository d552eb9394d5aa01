-- Which case of `read_week` holds, from what is asked of the entries. Assumes nothing.
use mathlib.Core.Path.{◌≡◌, refl, sym, ap, ◌∙◌}
use mathlib.Core.Bool.{true, false}
use Prim.Native.Nat.{ℕ, suc, ◌≤◌, ◌<◌}
use native.Mathlib.Omega.{arith}
use mathlib.Core.List.{List, [], ◌∷◌}
use mathlib.Core.Option.{Option, none, some}
use lib.ListN.{length}
use borrow.Author.Tests.{lt-ltb, le-ltb, eq-eqb, ne_eqb}
use Rattle.float64.proofs.Clash.{impossible}
use Rattle.records.specs.Entries.{Entry, slot, frames, settings, correction, count_settings}
use Rattle.records.specs.Corrections.{extended, week_of, names, named_from, named}
use Rattle.records.specs.Rates.{rates, rated}
use Rattle.records.specs.Week.{unread, entries_in, ask_hours, ask_entries, read_week}
use Rattle.records.specs.Inner.{tally_of, opening_of}
use Rattle.records.specs.declared.Settings.{Settings}
use Rattle.std.specs.Prelude as P
use Rattle.framing.specs.declared.NoRecord.{NoRecord}

-- what a walk's answer says of the entries
pub record Walked (o : Option (List Entry)) (m : ℕ) : Type 0 where
  pub entries : List Entry
  pub splits : o ≡ some entries
  pub settings : m ≡ count_settings entries

pub walked : (o : Option (List Entry)) {m : ℕ} → P.Ok m ≡ tally_of o → Walked o m
walked none e = impossible cc
walked (some es) e = record { entries = es; splits = refl; settings = cc }

pub broken : (o : Option (List Entry)) {e : NoRecord} → P.Err e ≡ tally_of o → o ≡ none
broken none e = refl
broken (some es) e = impossible cc

-- questions 12 and 17, by what comes first and the answers over all entries
ask_other : (es : List Entry) → P.None ≡ opening_of es → ask_entries (some es) ≡ unread 12
unfolding ask_entries
ask_other [] e = refl
ask_other (slot w ∷ es) e = refl
ask_other (frames f ∷ es) e = refl
ask_other (settings st ∷ es) e = impossible cc
ask_other (correction p x ∷ es) e = refl

-- settings and then others
module _ {st : Settings} where
  first : (es : List Entry) → P.Some st ≡ opening_of es → (t : List Entry) × (es ≡ settings st ∷ t)
  first [] e = impossible cc
  first (slot w ∷ es) e = impossible cc
  first (frames f ∷ es) e = impossible cc
  first (settings sd ∷ es) e = (es, ap (λ (x : Settings). settings x ∷ es) (let f : sd ≡ st = cc in f))
  first (correction p x ∷ es) e = impossible cc

module _ (st : Settings) (t : List Entry) where
  ask_settings : (count_settings (settings st ∷ t) ≡ 1 → ⊥) → ask_entries (some (settings st ∷ t)) ≡ unread 12
  unfolding ask_entries count_settings
  ask_settings n = simp (ne_eqb (count_settings t) 0 (λ (z : count_settings t ≡ 0). n (ap suc z)))

  module _ (c : count_settings (settings st ∷ t) ≡ 1) where
    ask-unnamed : named (settings st ∷ t) ≡ false → ask_entries (some (settings st ∷ t)) ≡ unread 17
    unfolding ask_entries count_settings extended names named_from
    ask-unnamed n = rw (eq-eqb (count_settings t) 0 (omega (arith, c)), n)

    ask-named : named (settings st ∷ t) ≡ true → ask_entries (some (settings st ∷ t)) ≡ ask_hours st (week_of (settings st ∷ t)) (rated (settings st ∷ t))
    unfolding ask_entries count_settings extended names named_from rates rated
    ask-named n = rw (eq-eqb (count_settings t) 0 (omega (arith, c)), n)

pub week_long : (s : List ℕ) → 4096 < length s → read_week s ≡ unread 11
unfolding read_week
week_long s h = simp (lt-ltb _ _ h)

module _ (s : List ℕ) (h : length s ≤ 4096) where
  asked : read_week s ≡ ask_entries (entries_in s)
  unfolding read_week
  asked = simp (le-ltb _ _ h)

  pub week_broken : entries_in s ≡ none → read_week s ≡ unread 11
  unfolding ask_entries
  week_broken e = asked ∙ ap ask_entries e

  module _ {es : List Entry} (e : entries_in s ≡ some es) where
    pub week-other : P.None ≡ opening_of es → read_week s ≡ unread 12
    week-other f = asked ∙ ap ask_entries e ∙ ask_other es f

    module _ {st : Settings} (f : P.Some st ≡ opening_of es) where
      pub week-settings : (count_settings es ≡ 1 → ⊥) → read_week s ≡ unread 12
      week-settings c = let g = first es f in asked ∙ ap ask_entries (e ∙ ap some g.1) ∙ ask_settings st g.0 (λ z. c (ap count_settings g.1 ∙ z))

      module _ (c : count_settings es ≡ 1) where
        pub week-unnamed : named es ≡ false → read_week s ≡ unread 17
        week-unnamed n = let g = first es f in asked ∙ ap ask_entries (e ∙ ap some g.1) ∙ ask-unnamed st g.0 (rw g.1 at c) (rw g.1 at n)

        pub week-named : named es ≡ true → read_week s ≡ ask_hours st (week_of es) (rated es)
        week-named n = let g = first es f in asked ∙ ap ask_entries (e ∙ ap some g.1) ∙ ask-named st g.0 (rw g.1 at c) (rw g.1 at n) ∙ ap (λ (x : List Entry). ask_hours st (week_of x) (rated x)) (sym g.1)
