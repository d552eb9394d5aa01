-- Laws of question 22, which specs/Rates.antt states. Assumes nothing.
use mathlib.Core.Path.{◌≡◌, refl, sym, ap, ◌∙◌}
use mathlib.Core.Bool.{Bool, true, false, cond, ◌&&◌, and-eq-true_iff}
use Prim.Native.Nat.{ℕ}
use mathlib.Core.List.{List, [], ◌∷◌, ◌++◌}
use lib.Dec.{eqb}
use borrow.Author.Tests.{eqb-true}
use Rattle.float64.proofs.Clash.{clash}
use Rattle.framing.specs.Frames.{Rec, rec}
use Rattle.overrun.specs.Overrun.{frames_in, is_rated}
use Rattle.records.specs.Entries.{Entry}
use Rattle.records.specs.Rates.{rates, rated, RatedInFile}
use Rattle.records.specs.Positions.{Somewhere}
use Rattle.records.specs.Inner.{Says, hour, quiet, setup, repair, framed}
use Rattle.records.proofs.Positions.{AllSay, end, next, all_say, later}

-- what 22 asks of an entry, by its record
says_rates : {k n : ℕ} {b : List ℕ} {e : Entry} → Says k n b e → rates e ≡ cond (eqb k 5) (is_rated (frames_in b)) true
unfolding rates
says_rates (hour k n e) = rw (e, k)
says_rates (quiet k n e) = rw (e, k)
says_rates (setup k n e) = rw (e, k)
says_rates (repair k n e) = rw (e, k)
says_rates (framed k n e) = rw (e, k)

right : (P Q : List Rec) (b : List ℕ) {es : List Entry} → AllSay (P ++ rec 5 b ∷ Q) es → rated es ≡ true → is_rated (frames_in b) ≡ true
unfolding rated
right [] Q b (next {e} s t) h = sym (says_rates s) ∙ ((and-eq-true_iff (rates e) _).0 h).0
right (rec k c ∷ P) Q b (next {e} s t) h = right P Q b t ((and-eq-true_iff (rates e) _).0 h).1

-- some rate does not count
abbrev Misrated : List Rec → Type 0
Misrated rs = Somewhere 5 (λ P b. is_rated (frames_in b) ≡ false) rs

-- one record and then others: its own rate does not count, or a later one
wrong_more : (k : ℕ) (b : List ℕ) (rs : List Rec) (t u v : Bool) → eqb k 5 ≡ t → is_rated (frames_in b) ≡ u → (v ≡ false → Misrated rs) → cond t u true && v ≡ false → Misrated (rec k b ∷ rs)
wrong_more k b rs true false v e g f h = record { P = []; b = b; Q = rs; is = ap (λ (j : ℕ). rec j b ∷ rs) (eqb-true k 5 e); has = g }
wrong_more k b rs true true v e g f h = later (rec k b) (f h)
wrong_more k b rs false u v e g f h = later (rec k b) (f h)

wrong : {rs : List Rec} {es : List Entry} → AllSay rs es → rated es ≡ false → Misrated rs
unfolding rated
wrong end h = absurd (clash refl h)
wrong (next {k} {b} {rs} {es} s t) h = wrong_more k b rs (eqb k 5) (is_rated (frames_in b)) (rated es) refl refl (wrong t) (ap (λ (x : Bool). x && rated es) (sym (says_rates s)) ∙ h)

pub rated_in_file : RatedInFile
rated_in_file rs es h = let t = all_say rs es h in record { right = λ n P Q b e. right P Q b (rw e at t) n; wrong = wrong t }
