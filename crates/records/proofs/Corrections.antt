-- Laws of corrections, which specs/Corrections.antt states. Assumes nothing.
use mathlib.Core.Path.{◌≡◌, refl, sym, ◌∙◌}
use mathlib.Core.Bool.{Bool, true, false, cond, ◌&&◌, and-eq-true_iff}
use Prim.Native.Nat.{ℕ, ◌+◌, ◌≤◌, ◌<◌}
use native.Mathlib.Omega.{arith}
use mathlib.Core.List.{List, [], ◌∷◌, ◌++◌, foldl, append-nil}
use mathlib.Core.Option
use mathlib.Core.Option.{Option, none, some, or_else}
use lib.ListN.{length, get_or, set, length-append, length-set}
use lib.Seq.{append_snoc, set-append_left, get_or-append-add, get_or-set_same, get_or-set_other}
use lib.Dec.{eqb, ltb}
use borrow.Author.Tests.{ltb-true, ltb-false, eqb-true, eqb-false}
use Rattle.float64.proofs.Clash.{clash}
use Rattle.framing.specs.Bytes.{number_at}
use Rattle.framing.specs.Frames.{Rec, rec}
use Rattle.overrun.specs.Overrun.{overrun}
use Rattle.records.specs.Entries.{Slot, silent, sounding, Entry, slot, frames, settings, correction}
use Rattle.records.specs.Positions.{Somewhere, Hour, slots_of, count_kind, hours_among}
use Rattle.records.specs.Corrections.{extended, names, named_from, last_correction, CorrectedInFile}
use Rattle.records.specs.Inner.{Says, hour, quiet, setup, repair, framed}
use Rattle.records.proofs.Positions.{AllSay, end, next, all_say, hour_says, weaker, later}

-- what an entry adds to the week so far, by its record: only an hour adds a slot, and only a correction can be wrong or change one
record Adds (ws : List Slot) (k : ℕ) (b : List ℕ) (e : Entry) : Type 0 where
  long : (P : List Rec) → length (extended ws e) + hours_among P ≡ length ws + hours_among (rec k b ∷ P)
  right : names ws e ≡ true → k ≡ 4 → number_at 0 2 b < length ws
  wrong : names ws e ≡ false → (k ≡ 4) × (length ws ≤ number_at 0 2 b)
  without : (P : List Rec) (es : List Entry) → count_kind 4 (rec k b ∷ P) ≡ 0 → (count_kind 4 P ≡ 0) × ((extended ws e ++ slots_of es ≡ ws ++ slots_of (e ∷ es)) × (names ws e ≡ true))

adds : {k n : ℕ} {b : List ℕ} {e : Entry} (ws : List Slot) → Says k n b e → Adds ws k b e
unfolding extended names slots_of count_kind
adds ws (hour k n e) = rw (e, k) (record { long = λ P. simp length-append (omega arith); right = λ h g. absurd (omega arith); wrong = λ h. absurd (clash refl h); without = λ P es h. (h, (append_snoc ws _ _, refl)) })
adds ws (quiet k n e) = rw (e, k) (record { long = λ P. simp length-append (omega arith); right = λ h g. absurd (omega arith); wrong = λ h. absurd (clash refl h); without = λ P es h. (h, (append_snoc ws _ _, refl)) })
adds ws (setup k n e) = rw (e, k) (record { long = λ P. refl; right = λ h g. absurd (omega arith); wrong = λ h. absurd (clash refl h); without = λ P es h. (h, (refl, refl)) })
adds ws (repair k n e) = rw (e, k) (record { long = λ P. simp length-set; right = λ h g. ltb-true _ _ h; wrong = λ h. (refl, ltb-false _ _ h); without = λ P es h. absurd (omega arith) })
adds ws (framed k n e) = rw (e, k) (record { long = λ P. simp length-append (omega arith); right = λ h g. absurd (omega arith); wrong = λ h. absurd (clash refl h); without = λ P es h. (h, (append_snoc ws _ _, refl)) })

-- the laws of `Corrected`, each after a week so far
count : {rs : List Rec} {es : List Entry} (ws : List Slot) → AllSay rs es → length (foldl extended ws es) ≡ length ws + hours_among rs
unfolding count_kind
count ws end = omega arith
count ws (next {e} {rs} s t) = count (extended ws e) t ∙ (adds ws s).long rs

-- what stands at the position of an hour
slots_more : (e : Entry) (es : List Entry) → slots_of (e ∷ es) ≡ extended [] e ++ slots_of es
unfolding slots_of extended
slots_more (slot w) es = refl
slots_more (frames f) es = refl
slots_more (settings st) es = refl
slots_more (correction p x) es = refl

said_at : (P Q : List Rec) (r : Rec) {w : Slot} {es : List Entry} → Hour r w → AllSay (P ++ r ∷ Q) es → get_or (slots_of es) (hours_among P) silent ≡ w
unfolding count_kind
said_at [] Q (rec k b) h (next {es} s t) = rw (hour_says es h s)
said_at (rec j c ∷ P) Q r h (next {e} {es} s t) =
    let a : hours_among (rec j c ∷ P) ≡ length (extended [] e) + hours_among P = omega (arith, (adds [] s).long P) in
    rw (a, slots_more e es) (get_or-append-add (extended [] e) (slots_of es) (hours_among P) silent ∙ said_at P Q r h t)

right : (P Q : List Rec) (b : List ℕ) {es : List Entry} (ws : List Slot) → AllSay (P ++ rec 4 b ∷ Q) es → named_from ws es ≡ true → number_at 0 2 b < length ws + hours_among P
unfolding named_from count_kind
right [] Q b ws (next {e} s t) h = omega (arith, (adds ws s).right ((and-eq-true_iff (names ws e) _).0 h).0 refl)
right (rec k c ∷ P) Q b ws (next {e} s t) h = omega (arith, right P Q b (extended ws e) t ((and-eq-true_iff (names ws e) _).0 h).1, (adds ws s).long P)

-- some correction is wrong, with n hours before the records
abbrev Misnamed : ℕ → List Rec → Type 0
Misnamed n rs = Somewhere 4 (λ P b. n + hours_among P ≤ number_at 0 2 b) rs

-- one record and then others: its own correction is wrong, or a later one
wrong_more : {ws : List Slot} {k : ℕ} {b : List ℕ} {e : Entry} (rs : List Rec) (u v : Bool) → Adds ws k b e → names ws e ≡ u → (v ≡ false → Misnamed (length (extended ws e)) rs) → u && v ≡ false → Misnamed (length ws) (rec k b ∷ rs)
unfolding count_kind
wrong_more {b} rs false v a g f h = let w = a.wrong g in record { P = []; b = b; Q = rs; is = rw w.0; has = omega (arith, w.1) }
wrong_more {k} {b} rs true v a g f h = later (rec k b) (weaker (λ P c w. omega (arith, w, a.long P)) (f h))

wrong : {rs : List Rec} {es : List Entry} (ws : List Slot) → AllSay rs es → named_from ws es ≡ false → Misnamed (length ws) rs
unfolding named_from
wrong ws end h = absurd (clash refl h)
wrong ws (next {e} {rs} {es} s t) h = wrong_more rs (names ws e) (named_from (extended ws e) es) (adds ws s) refl (wrong (extended ws e) t) h

without : {rs : List Rec} {es : List Entry} (ws : List Slot) → AllSay rs es → count_kind 4 rs ≡ 0 → (foldl extended ws es ≡ ws ++ slots_of es) × (named_from ws es ≡ true)
unfolding named_from slots_of
without ws end h = (sym (append-nil ws), refl)
without ws (next {e} {rs} {es} s t) h =
    let a = (adds ws s).without rs es h in
    let w = without (extended ws e) t a.0 in
    (w.0 ∙ a.1.0, rw a.1.1 w.1)

-- slot p once slot q is corrected, if a later correction o does not say it
corrected : (o : Option Slot) (ws vs : List Slot) (q p : ℕ) (a : Slot) → q < length ws → Option.get_or o (get_or (set ws q a ++ vs) p silent) ≡ Option.get_or (or_else o (cond (eqb q p) (some a) none)) (get_or (ws ++ vs) p silent)
unfolding or_else
corrected (some w) ws vs q p a h = refl
corrected none ws vs q p a h = rw (← set-append_left ws vs q a h) (go (eqb q p) refl)
  where
    go : (t : Bool) → eqb q p ≡ t → get_or (set (ws ++ vs) q a) p silent ≡ Option.get_or (cond t (some a) none) (get_or (ws ++ vs) p silent)
    go true e = rw (eqb-true q p e) (get_or-set_same (ws ++ vs) p a silent (simp length-append (omega (arith, eqb-true q p e))))
    go false e = get_or-set_other (ws ++ vs) q p a silent (λ g. eqb-false q p e (sym g))

last : (es : List Entry) (ws : List Slot) → named_from ws es ≡ true → (p : ℕ) → get_or (foldl extended ws es) p silent ≡ Option.get_or (last_correction p es) (get_or (ws ++ slots_of es) p silent)
unfolding named_from names extended slots_of last_correction
last [] ws h p = rw append-nil
last (slot w ∷ es) ws h p = last es (ws ++ (w ∷ [])) h p ∙ rw append_snoc
last (frames f ∷ es) ws h p = last es (ws ++ (sounding (overrun f) ∷ [])) h p ∙ rw append_snoc
last (settings st ∷ es) ws h p = last es ws h p
last (correction q x ∷ es) ws h p =
    let n = (and-eq-true_iff (ltb q (length ws)) _).0 h in
    last es (set ws q (sounding x)) n.1 p ∙ corrected (last_correction p es) ws (slots_of es) q p (sounding x) (ltb-true _ _ n.0)

pub corrected_in_file : CorrectedInFile
corrected_in_file rs es h = let t = all_say rs es h in record {
  count = omega (arith, count [] t);
  hour = λ P Q r w h e. said_at P Q r h (rw e at t);
  last = last es [];
  right = λ n P Q b e. omega (arith, right P Q b [] (rw e at t) n);
  wrong = λ n. weaker (λ P b w. omega (arith, w)) (wrong [] t n);
  without = without [] t;
}
