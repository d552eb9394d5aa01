-- What a record says, by its kind and the size of its body. Assumes nothing.
use mathlib.Core.Path.{◌≡◌, refl, sym, ap, ◌∙◌, subst}
use mathlib.Core.Bool.{Bool, true, false, cond}
use Prim.Native.Nat.{ℕ, ◌+◌, ◌-◌, ◌≤◌}
use native.Mathlib.Omega.{arith}
use native.Mathlib.Nat.{add-zero}
use mathlib.Core.List.{List, [], ◌∷◌}
use mathlib.Core.Option.{Option, none, some, map, bind}
use Rattle.std.specs.Prelude as P
use lib.ListN.{length, take, drop, length-drop}
use lib.Seq.{length-take-le}
use lib.Dec.{eqb}
use lib.Ieee.{Float, binary64, of_bits}
use borrow.Author.Tests.{eqb-true, eq-eqb, ne_eqb}
use mir.Val.{bool_byte}
use denote.Enum.Bare.{sameb}
use Rattle.records.specs.contracts.Kind.{the_type}
use Rattle.float64.proofs.Clash.{clash, impossible}
use Rattle.framing.specs.Bytes.{number_at}
use Rattle.framing.specs.Frames.{Rec, rec, records}
use Rattle.framing.specs.Places.{head_at}
use Rattle.framing.specs.declared.Record as framing
use Rattle.framing.specs.declared.NoRecord.{NoRecord}
use Rattle.framing.proofs.Numbers.{number_of_part}
use Rattle.framing.proofs.Heads.{Opens, Heads, heads}
use Rattle.records.specs.Entries.{Entry, settings_in, sized, entry_of, both, entries, count_settings}
use Rattle.records.specs.Week.{entries_in}
use Rattle.records.specs.declared.Record.{Record}
use Rattle.records.specs.declared.Kind.{Kind}
use Rattle.records.specs.declared.Kind.TheVariants as kind
use Rattle.records.specs.Inner.{known, kind_of, kind_number, size_of, Says, hour, quiet, setup, repair, framed, Found, Stands}

-- an entry that a record of kind k says, whose body b has n bytes
record Entered (k n : ℕ) (b : List ℕ) (o : Option Entry) : Type 0 where
  entry : Entry
  is : o ≡ some entry
  says : Says k n b entry

-- whether there is one is v
record Told (k n : ℕ) (b : List ℕ) (o : Option Entry) (v : Bool) : Type 0 where
  yes : v ≡ true → Entered k n b o
  no : v ≡ false → o ≡ none

module _ (k : ℕ) (b : List ℕ) where
  -- kind j, with bodies of m bytes, before other kinds
  by_kind : (j m : ℕ) (e : Entry) {o : Option Entry} {v : Bool} → (k ≡ j → length b ≡ m → Says k (length b) b e) → Told k (length b) b o v → Told k (length b) b (cond (eqb k j) (sized m b e) o) (cond (eqb k j) (eqb (length b) m) v)
  by_kind j m e {o} {v} says others = go (eqb k j) (eqb (length b) m) refl refl
    where
      go : (t u : Bool) → eqb k j ≡ t → eqb (length b) m ≡ u → Told k (length b) b (cond t (cond u (some e) none) o) (cond t u v)
      go true true g f = record { yes = λ h. record { entry = e; is = refl; says = says (eqb-true _ _ g) (eqb-true _ _ f) }; no = λ h. absurd (clash refl h) }
      go true false g f = record { yes = λ h. absurd (clash h refl); no = λ h. refl }
      go false u g f = others

  told : Told k (length b) b (entry_of (rec k b)) (known k (length b))
  unfolding entry_of
  told =
      by_kind 1 4 _ (λ g f. hour g f refl)
      (by_kind 2 0 _ (λ g f. quiet g f refl)
      (by_kind 3 26 _ (λ g f. setup g f refl)
      (by_kind 4 6 _ (λ g f. repair g f refl)
      (by_kind 5 12 _ (λ g f. framed g f refl)
      (record { yes = λ h. absurd (clash h refl); no = λ h. refl })))))

  -- what a record says, by its kind
  pub entry_says : (e : Entry) → entry_of (rec k b) ≡ some e → Says k (length b) b e
  entry_says e h = go (known k (length b)) refl
    where
      go : (v : Bool) → known k (length b) ≡ v → Says k (length b) b e
      go true g =
          let w = told.yes g in
          let i : w.entry ≡ e = cc w.is in
          rw i at w.says
      go false g = impossible (cc (told.no g))

-- whether a record is of a known kind, and has its size
pub record Kinded (k n : ℕ) (o : P.Result Kind NoRecord) (v : Bool) : Type 0 where
  pub kind : {d : Kind} → o ≡ P.Ok d → (kind_number d ≡ k) × (v ≡ eqb n (size_of d))
  pub other : {e : NoRecord} → o ≡ P.Err e → v ≡ false

module _ (k n : ℕ) where
  kinded_by : (d : Kind) {o : P.Result Kind NoRecord} {v : Bool} → Kinded k n o v → Kinded k n (cond (eqb k (kind_number d)) (P.Ok d) o) (cond (eqb k (kind_number d)) (eqb n (size_of d)) v)
  kinded_by d {o} {v} others = go (eqb k (kind_number d)) refl
    where
      same : {x : Kind} (o : P.Result Kind NoRecord) → o ≡ P.Ok d → o ≡ P.Ok x → kind_number d ≡ k → (kind_number x ≡ k) × (eqb n (size_of d) ≡ eqb n (size_of x))
      same {x} o g h e = let f : d ≡ x = cc in rw (← f) (e, refl)

      go : (t : Bool) → eqb k (kind_number d) ≡ t → Kinded k n (cond t (P.Ok d) o) (cond t (eqb n (size_of d)) v)
      go true g = record { kind = λ h. same (P.Ok d) refl h (sym (eqb-true _ _ g)); other = λ h. impossible cc }
      go false g = others

  pub kinded : Kinded k n (kind_of k) (known k n)
  kinded = kinded_by kind.Hour (kinded_by kind.Silence (kinded_by kind.Settings (kinded_by kind.Correction (kinded_by kind.Frames (record { kind = λ h. impossible cc; other = λ h. refl })))))

-- a record and then others, said
said_first : (r : Rec) (o : Option (List Rec)) → bind (map (λ (rs : List Rec). r ∷ rs) o) entries ≡ both (entry_of r) (bind o entries)
unfolding entries bind
said_first r none = nothing (entry_of r)
  where
    nothing : (e : Option Entry) → none ≡ both e none
    nothing none = refl
    nothing (some e) = refl
said_first r (some rs) = refl

-- what stands at a place
module _ (s : List ℕ) (at : ℕ) where
  pub stands_end : P.Ok P.None ≡ head_at s at → entries_in (drop at s) ≡ some []
  unfolding entries bind
  stands_end e = ap (λ (o : Option (List Rec)). bind o entries) (subst (Heads s at) (sym e) (heads s at))

  pub stands_bad : {e : NoRecord} → P.Err e ≡ head_at s at → entries_in (drop at s) ≡ none
  unfolding bind
  stands_bad e = ap (λ (o : Option (List Rec)). bind o entries) (subst (Heads s at) (sym e) (heads s at))

  pub opens : {r : framing.Record} → P.Ok (P.Some r) ≡ head_at s at → Opens s at r.kind r.body r.next
  opens e = subst (Heads s at) (sym e) (heads s at)

module _ {s : List ℕ} {at k b n : ℕ} (o : Opens s at k b n) where
  size : length (take (n - b) (drop b s)) ≡ n - b
  size = length-take-le (n - b) (drop b s) (omega (arith, length-drop b s, o.more, o.inside))

  said : {x : Option Entry} → entry_of (rec k (take (n - b) (drop b s))) ≡ x → entries_in (drop at s) ≡ both x (entries_in (drop n s))
  said e = ap (λ (y : Option (List Rec)). bind y entries) o.rest ∙ said_first (rec k (take (n - b) (drop b s))) (records (drop n s)) ∙ ap (λ (y : Option Entry). both y (entries_in (drop n s))) e

  tells : Told k (n - b) (take (n - b) (drop b s)) (entry_of (rec k (take (n - b) (drop b s)))) (known k (n - b))
  tells = let r = take (n - b) (drop b s) in
      subst (λ (m : ℕ). Told k m r (entry_of (rec k r)) (known k m)) size (told k r)

  -- a record of a known kind with its kind's length, and any other
  pub found-known : true ≡ known k (n - b) → Found s at k b n
  found-known h =
      let e = tells.yes (sym h) in
      record {
        entry = e.entry;
        body = o.body;
        more = o.more;
        inside = o.inside;
        says = e.says;
        rest = said e.is;
      }

  pub found_unknown : false ≡ known k (n - b) → entries_in (drop at s) ≡ none
  found_unknown h = said (tells.no (sym h))

  pub of_kind : {d : Kind} → kind_of k ≡ P.Ok d → n - b ≡ size_of d → Found s at (kind_number d) b n
  of_kind {d} e h = let w = (kinded k (n - b)).kind e in
      rw w.0 (found-known (sym (w.1 ∙ eq-eqb (n - b) (size_of d) h)))

  pub other_size : {d : Kind} → kind_of k ≡ P.Ok d → (n - b ≡ size_of d → ⊥) → entries_in (drop at s) ≡ none
  other_size {d} e h = let w = (kinded k (n - b)).kind e in
      found_unknown (sym (w.1 ∙ ne_eqb (n - b) (size_of d) h))

-- an error, as the contract has it
pub stands_err : (s : List ℕ) (at : ℕ) (r : P.Result (P.Option Record) NoRecord) → P.IsErr r → entries_in (drop at s) ≡ none → Stands s at r
stands_err s at (P.Ok o) e h = impossible cc
stands_err s at (P.Err x) e h = h

-- whether a kind is that of settings, as the code asks it
pub same_settings : (d : Kind) → sameb the_type d kind.Settings ≡ eqb (kind_number d) 3
same_settings kind.Hour = refl
same_settings kind.Silence = refl
same_settings kind.Settings = refl
same_settings kind.Correction = refl
same_settings kind.Frames = refl

-- by kind: how many settings an entry is
pub says_count : {k n : ℕ} {b : List ℕ} {e : Entry} → Says k n b e → count_settings (e ∷ []) ≡ bool_byte (eqb k 3)
unfolding count_settings
says_count (hour k n e) = rw (e, k)
says_count (quiet k n e) = rw (e, k)
says_count (setup k n e) = rw (e, k)
says_count (repair k n e) = rw (e, k)
says_count (framed k n e) = rw (e, k)

-- its kind and the size of its body
says_known : {k n : ℕ} {b : List ℕ} {e : Entry} → Says k n b e → known k n ≡ true
says_known (hour k n e) = rw (k, n)
says_known (quiet k n e) = rw (k, n)
says_known (setup k n e) = rw (k, n)
says_known (repair k n e) = rw (k, n)
says_known (framed k n e) = rw (k, n)

-- a body is inside, by its kind
says_size : (d : Kind) {n : ℕ} {b : List ℕ} {e : Entry} → Says (kind_number d) n b e → n ≡ size_of d
says_size d {n} w = eqb-true n (size_of d) (known_size d n (says_known w))
  where
    known_size : (x : Kind) (m : ℕ) → known (kind_number x) m ≡ true → eqb m (size_of x) ≡ true
    known_size kind.Hour m h = h
    known_size kind.Silence m h = h
    known_size kind.Settings m h = h
    known_size kind.Correction m h = h
    known_size kind.Frames m h = h

pub kind_inside : {s : List ℕ} {at b n : ℕ} (d : Kind) → Found s at (kind_number d) b n → b + size_of d ≤ length s
kind_inside d f = omega (arith, says_size d f.says, f.more, f.inside)

-- the settings in a body that is a part of the input, from its numbers
pub settings_are : (s : List ℕ) (b : ℕ) {l t : Float} {n q m o p : ℕ} → l ≡ of_bits binary64 n → n ≡ number_at b 8 s → t ≡ of_bits binary64 q → q ≡ number_at (b + 8) 8 s → m ≡ number_at (b + 16) 8 s → o ≡ number_at (b + 24) 1 s → p ≡ number_at (b + 25) 1 s
    → record { lam = l; tol = t; max_iter = m; order = o; penalty = p } ≡ settings_in (take 26 (drop b s))
unfolding settings_in
settings_are s b d e f g h i j =
    rw (d, e, f, g, h, i, j, number_of_part s b 26 0 8 (omega arith), number_of_part s b 26 8 8 (omega arith), number_of_part s b 26 16 8 (omega arith), number_of_part s b 26 24 1 (omega arith), number_of_part s b 26 25 1 (omega arith), add-zero b)
