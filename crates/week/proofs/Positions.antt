-- Laws of the positions that are printed, which specs/Positions.antt states. Assumes nothing.
use mathlib.Core.Path.{◌≡◌, refl, sym, ap, ap₂, ◌∙◌}
use Prim.Native.Nat.{ℕ, suc, ◌<◌}
use native.Mathlib.Omega.{arith}
use mathlib.Core.List.{List, [], ◌∷◌}
use lib.ListN.{length, get_or}
use Rattle.vectors.specs.Vec.{list}
use Rattle.vectors.proofs.Laws.{get_d_list}
use Rattle.vectors.proofs.Rising.{rising_within, rising_picked}
use Rattle.questions.specs.Questions.{Asked}
use Rattle.fit.specs.Fit.{Outcome, refused, fitted, fit}
use Rattle.fit.proofs.Lengths.{knot_places}
use Rattle.records.specs.declared.Settings.{Settings}
use Rattle.records.specs.Entries.{Slot, hours_of}
use Rattle.records.specs.Positions.{positions_of}
use Rattle.records.proofs.Positions.{week_positions}
use Rattle.lines.specs.Positions.{positions_at}
use Rattle.week.specs.Week.{asked_by, week_lent, listing_of, outcome_text, fit_text, reading_text, week_text}
use Rattle.week.specs.Positions.{KnotPositions, closed_up_text, AsBefore}

pub knot_positions : (st : Settings) (ws : List Slot) → KnotPositions st ws
knot_positions st ws f e =
    let p = week_positions ws in
    rising_picked (positions_of ws) f.knots p.rising (rising_within (knot_places (asked_by st (hours_of ws)) week_lent f e) (omega (arith, p.each)))

-- numbered by 0, 1, .. , n - 1 a place below n keeps its number
own : (n : ℕ) (ks : List ℕ) → ((i : ℕ) → i < length ks → get_or ks i 0 < n) → positions_at (list n (λ i. i)) ks ≡ ks
own n [] h = refl
own n (k ∷ ks) h = ap₂ (λ (j : ℕ) (js : List ℕ). j ∷ js) (get_d_list 0 n (λ i. i) k (h 0 (omega arith))) (own n ks (λ i l. h (suc i) (omega arith)))

same_outcome : (a : Asked) (o : Outcome) → fit a week_lent ≡ o → outcome_text a (list (length a.y) (λ i. i)) o ≡ closed_up_text a o
unfolding outcome_text closed_up_text
same_outcome a (refused q) e = refl
same_outcome a (fitted f) e = ap (listing_of a f (list (length a.y) (λ i. i))) (own (length a.y) f.knots (λ i h. omega (arith, (knot_places a week_lent f e).below i h)))

pub as_before : (s : List ℕ) → AsBefore s
unfolding week_text reading_text fit_text
as_before s st ws e n =
    let a = asked_by st (hours_of ws) in
    let ps : positions_of ws ≡ list (length (hours_of ws)) (λ i. i) = (week_positions ws).none_silent n ∙ ap (λ (m : ℕ). list m (λ i. i)) (sym n) in
    ap reading_text e ∙ ap (λ (q : List ℕ). outcome_text a q (fit a week_lent)) ps ∙ same_outcome a (fit a week_lent) refl
