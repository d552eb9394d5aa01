-- From the answers of `read_week` and of the fit to the text. Assumes nothing.
use mathlib.Core.Path.{◌≡◌, refl, sym, ap, ap₂, ◌∙◌, subst}
use mathlib.Core.Bool.{Bool, true, false, cond}
use Prim.Native.Nat.{ℕ, ◌+◌, ◌≤◌, ◌<◌}
use native.Mathlib.Omega.{arith}
use mathlib.Core.List.{List, [], ◌∷◌}
use mathlib.Core.Option.{Option, none, some}
use lib.ListN.{length, get_or, take, drop, get_or-append}
use lib.Seq.{take_all, length-take-le}
use lib.Dec.{leb, ltb, eqb}
use lib.Ieee.{Float}
use Rattle.std.specs.Prelude as P
use borrow.Author.Tests.{leb-true}
use Rattle.float64.proofs.Clash.{impossible}
use Rattle.io.specs.Counts.{IsPrefixLen}
use Rattle.vectors.specs.Vec.{put}
use Rattle.vectors.specs.Parts.{Wrote}
use Rattle.vectors.proofs.Texts.{wrote_length, take_put, put-fits}
use Rattle.records.specs.Entries.{Slot, Entry, slot, frames, settings, correction, count_settings, hours_of}
use Rattle.records.specs.Corrections.{week_of, named}
use Rattle.records.specs.Rates.{rated}
use Rattle.records.specs.Week.{read_week, ask_entries, entries_in}
use Rattle.records.specs.Positions.{positions_of}
use Rattle.series.specs.Inner.{answer, Reads}
use Rattle.records.proofs.Positions.{week_positions}
use Rattle.records.specs.Week as read
use Rattle.records.specs.declared.Settings.{Settings}
use Rattle.series.specs.declared.Week.{Week}
use Rattle.lines.specs.Lines.{refused_line}
use Rattle.listing.specs.Shown.{Below, shown_line, shown_listing}
use Rattle.questions.specs.Questions.{Asked, Lent}
use Rattle.fit.specs.Outputs.{Outputs, outputs}
use Rattle.fit.specs.Fit.{Outcome, refused, fitted, fit, after}
use Rattle.fit.proofs.Lengths.{lengths, knot_places}
use Rattle.trend_filter.specs.Answers.{summary_of, answer_of, Gives}
use Rattle.trend_filter.specs.declared.Summary.{Summary}
use Rattle.week.specs.Shown.{shown}
use Rattle.week.specs.Week.{asked_by, week_lent, listing_of, outcome_text, fit_text, reading_text, week_text}

-- what lending the written part asks
pub wrote_counts : {d t e : List ℕ} {at r : ℕ} → Wrote d at t e r → IsPrefixLen r e
wrote_counts {d} {t} {e} {at} {r} w =
    let h : r ≤ length e = omega (arith, wrote_length w, w.room) in
    (h, sym (length-take-le r e h))

-- a week that is taken has at most 168 hours
abbrev Short : read.Reading → Type 0
Short (read.unread k) = Unit
Short (read.read st ws) = length (hours_of ws) ≤ 168

cond_case : (P : read.Reading → Type 0) (b : Bool) (x y : read.Reading) → (b ≡ true → P x) → P y → P (cond b x y)
cond_case P true x y f g = f refl
cond_case P false x y f g = g

ask_short : (o : Option (List Entry)) → Short (ask_entries o)
unfolding ask_entries
ask_short none = tt
ask_short (some []) = tt
ask_short (some (slot w ∷ es)) = tt
ask_short (some (frames f ∷ es)) = tt
ask_short (some (correction p x ∷ es)) = tt
ask_short (some (settings st ∷ es)) =
    cond_case Short (eqb (count_settings es) 0) _ _
    (λ _. cond_case Short (named es) _ _
    (λ _. cond_case Short (leb (length (hours_of (week_of es))) 168) _ _
    (λ e. cond_case Short (rated es) (read.read st (week_of es)) (read.unread 22) (λ _. leb-true _ _ e) tt) tt) tt) tt

short : (s : List ℕ) → Short (read_week s)
unfolding read_week
short s = cond_case Short (ltb 4096 (length s)) (read.unread 11) (ask_entries (entries_in s)) (λ _. tt) (ask_short (entries_in s))

-- what an answer of `read_week` says
was_refused : (a : read.Reading) {k : ℕ} → P.Err k ≡ answer a → a ≡ read.unread k
was_refused (read.unread j) e = ap read.unread (sym (let f : _ ≡ j = cc in f))
was_refused (read.read st ws) e = impossible cc

-- t stands in the first n places of z
pub record Front {A : Type 0} (n : ℕ) (z t : List A) : Type 0 where
  pub is : take n z ≡ t
  pub room : n ≤ length z

fronted : {A : Type 0} {n : ℕ} {z : List A} (y t : List A) → z ≡ put y 0 t → n ≡ length t → Front n z t
fronted {A} {n} {z} y t p e = record {
  is = take_put y t n p (sym e);
  room = omega (arith, put-fits y t p);
}

pub record Taken (a : read.Reading) (st : Settings) (n : ℕ) (z : List Float) (q : List ℕ) : Type 0 where
  pub slots : List Slot
  pub week : a ≡ read.read st slots
  pub hours : Front n z (hours_of slots)
  pub positions : Front n q (positions_of slots)
  pub few : n ≤ 168

was_taken : (a : read.Reading) {w : Week} {y z : List Float} {q₀ q : List ℕ} → Reads a (P.Ok w) y z q₀ q → Short a → Taken a w.settings w.n z q
was_taken (read.unread j) r h = let e = r.said in impossible cc
was_taken (read.read sd ws) {w} r h =
    let e = r.said in
    let f : w ≡ record { settings = sd; n = length (hours_of ws) } = cc in
    let en : w.n ≡ length (hours_of ws) = ap (λ (x : Week). x.n) f in
    record {
      slots = ws;
      week = ap (λ (x : Settings). read.read x ws) (sym (ap (λ (x : Week). x.settings) f));
      hours = fronted _ (hours_of ws) r.wrote en;
      positions = fronted _ (positions_of ws) r.positions (en ∙ sym (week_positions ws).each);
      few = omega arith;
    }

pub taken_week : (s : List ℕ) {w : Week} {y z : List Float} {q₀ q : List ℕ} → Reads (read_week s) (P.Ok w) y z q₀ q → Taken (read_week s) w.settings w.n z q
taken_week s r = was_taken (read_week s) r (short s)

-- the text of a week
pub text_refused : (s : List ℕ) {k : ℕ} → P.Err k ≡ answer (read_week s) → week_text s ≡ refused_line k
unfolding week_text reading_text
text_refused s e = ap reading_text (was_refused (read_week s) e)

pub text_taken : (s : List ℕ) {st : Settings} {n : ℕ} {z : List Float} {q : List ℕ} → Taken (read_week s) st n z q → week_text s ≡ fit_text st (take n z) (take n q)
unfolding week_text reading_text
text_taken s {st} w = ap reading_text w.week ∙ ap₂ (fit_text st) (sym w.hours.is) (sym w.positions.is)

-- what an answer of the fit says
was_no_fit : (a : Asked) (ps : List ℕ) (o : Outcome) {k : ℕ} → P.Err k ≡ answer_of o → outcome_text a ps o ≡ refused_line k
unfolding outcome_text answer_of
was_no_fit a ps (refused j) e = ap refused_line (sym (let f : _ ≡ j = cc in f))
was_no_fit a ps (fitted f) e = impossible cc

pub record Listed (st : Settings) (y : List Float) (ps : List ℕ) (s : Summary) (t c : List Float) (k : List ℕ) : Type 0 where
  pub text : fit_text st y ps ≡ shown_listing (shown st (length y) s) ps t c k
  pub few : s.knots ≤ length y
  pub below : Below k s.knots (length ps)

was_fit : (st : Settings) (y : List Float) (ps : List ℕ) (o : Outcome) (before : Outputs) {r : P.Result Summary ℕ} {s : Summary} {t c d : List Float} {k : List ℕ}
    → length ps ≡ length y → fit (asked_by st y) week_lent ≡ o → r ≡ P.Ok s → Gives o r before (outputs t c k d) → Listed st y ps s t c k
unfolding fit_text outcome_text listing_of shown_line shown_listing summary_of answer_of after
was_fit st y ps (refused i) before {r} {s} n g e h =
    let p : P.Ok s ≡ answer_of (refused i) = sym e ∙ h.answer in
    impossible cc
was_fit st y ps (fitted f) before {r} {s} {t} {c} {d} {k} n g e h =
    let p : P.Ok s ≡ answer_of (fitted f) = sym e ∙ h.answer in
    let es : summary_of f ≡ s = cc in
    let l = lengths (asked_by st y) week_lent f g in
    let trend_is = ap (λ (o : Outputs). o.trend) h.out in
    let cycle-is = ap (λ (o : Outputs). o.cycle) h.out in
    let knots-is = ap (λ (o : Outputs). o.knots) h.out in
    let knot-at : (i : ℕ) → i < length f.knots → get_or k i 0 ≡ get_or f.knots i 0 = λ i j. ap (λ (v : List ℕ). get_or v i 0) knots-is ∙ get_or-append f.knots (drop (0 + length f.knots) before.knots) 0 i j in
    let r = knot_places (asked_by st y) week_lent f g in
    subst (λ (x : Summary). Listed st y ps x t c k) es (record {
      text = ap (outcome_text (asked_by st y) ps) g ∙ rw (take_all (length y) ps (omega arith), trend_is, cycle-is, knots-is, take_put before.trend f.trend (length y) refl l.trend, take_put before.cycle f.cycle (length y) refl l.cycle, take_put before.knots f.knots (length f.knots) refl refl);
      few = omega (arith, l.knots);
      below = λ i j. omega (arith, knot-at i j, r.below i j);
    })

-- a call of the fit with what the program lends: its answer, and the places that it left
pub record Fitted (st : Settings) (y : List Float) (r : P.Result Summary ℕ) (t c : List Float) (k : List ℕ) : Type 0 where
  before : Outputs
  dual : List Float
  gives : Gives (fit (asked_by st y) week_lent) r before (outputs t c k dual)

pub fits-lent : (st : Settings) (y : List Float) (l : Lent) {r : P.Result Summary ℕ} {b : Outputs} {t c d : List Float} {k : List ℕ} → Gives (fit (asked_by st y) l) r b (outputs t c k d) → week_lent ≡ l → Fitted st y r t c k
fits-lent st y l {r} {b} {t} {c} {d} {k} h g = record { before = b; dual = d; gives = subst (λ (x : Lent). Gives (fit (asked_by st y) x) r b (outputs t c k d)) (sym g) h }

module _ {st : Settings} {y : List Float} {r : P.Result Summary ℕ} {t c : List Float} {k : List ℕ} (f : Fitted st y r t c k) where
  pub fit_listed : {s : Summary} (ps : List ℕ) → length ps ≡ length y → r ≡ P.Ok s → Listed st y ps s t c k
  fit_listed {s} ps n e = was_fit st y ps (fit (asked_by st y) week_lent) f.before n refl e f.gives

  pub fit_refused : {j : ℕ} (ps : List ℕ) → r ≡ P.Err j → fit_text st y ps ≡ refused_line j
  unfolding fit_text
  fit_refused ps e = was_no_fit (asked_by st y) ps (fit (asked_by st y) week_lent) (sym e ∙ f.gives.answer)
