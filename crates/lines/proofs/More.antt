-- Lines one after another: of the hours and of the knots that stand first in longer vectors, ps having the position of each place. Assumes nothing.
use mathlib.Core.Path.{◌≡◌, sym}
use Prim.Native.Nat.{ℕ, zero, suc, ◌+◌, ◌*◌, ◌≤◌, ◌<◌}
use native.Mathlib.Numerals.{add-one}
use native.Mathlib.Omega.{arith}
use mathlib.Core.List.{List, [], ◌∷◌, ◌++◌, append_assoc, append-nil}
use lib.ListN.{length, get_or, take}
use lib.Ieee.{Float}
use Rattle.vectors.specs.Vec.{at}
use Rattle.vectors.proofs.Texts.{wrote_none, wrote_then}
use Rattle.fields.specs.Puts.{Puts}
use Rattle.lines.specs.Lines.{hour_line, hour_lines, knot_line, knot_lines}
use Rattle.lines.specs.Positions.{positions_at}

-- a line of at most w bytes after i such lines
line-more : (w i : ℕ) {d e f t u v : List ℕ} {at m r : ℕ} → Puts d at t e m (w * i) → Puts e m u f r w → t ++ u ≡ v → Puts d at v f r (w * (i + 1))
line-more w i a b p = rw (← p) (record { wrote = wrote_then a.wrote b.wrote; short = omega (arith, a.short, b.short) })

knot_more : (ps k : List ℕ) (n : ℕ) → n < length k
    → knot_lines (positions_at ps (take n k)) ++ knot_line (get_or ps (get_or k n 0) 0) ≡ knot_lines (positions_at ps (take (suc n) k))
unfolding knot_lines
knot_more ps [] n h = absurd (omega arith)
knot_more ps (x ∷ k) zero h = sym (append-nil (knot_line (get_or ps x 0)))
knot_more ps (x ∷ k) (suc n) h = rw (append_assoc, knot_more ps k n (omega arith))

pub knots_none : (ps k d : List ℕ) (at : ℕ) → at ≤ length d → Puts d at (knot_lines (positions_at ps (take 0 k))) d at (26 * 0)
unfolding knot_lines
knots_none ps k d at h = record { wrote = wrote_none d at h; short = omega arith }

-- one knot more, of position p
pub knots-more : (ps k : List ℕ) (n : ℕ) {p : ℕ} {d e f : List ℕ} {at m r : ℕ} → n < length k
    → Puts d at (knot_lines (positions_at ps (take n k))) e m (26 * n) → Puts e m (knot_line p) f r 26 → p ≡ get_or ps (get_or k n 0) 0 → Puts d at (knot_lines (positions_at ps (take (n + 1) k))) f r (26 * (n + 1))
knots-more ps k n h a b q = line-more 26 n a b (rw (q, add-one n) (knot_more ps k n h))

hour_more : (ps : List ℕ) (t c : List Float) (n : ℕ) → n < length ps → n < length t → n < length c
    → hour_lines (take n ps) (take n t) (take n c) ++ hour_line (get_or ps n 0) (at t n) (at c n) ≡ hour_lines (take (suc n) ps) (take (suc n) t) (take (suc n) c)
unfolding hour_lines
hour_more [] t c n g h k = absurd (omega arith)
hour_more (p ∷ ps) [] c n g h k = absurd (omega arith)
hour_more (p ∷ ps) (x ∷ t) [] n g h k = absurd (omega arith)
hour_more (p ∷ ps) (x ∷ t) (y ∷ c) zero g h k = sym (append-nil (hour_line p x y))
hour_more (p ∷ ps) (x ∷ t) (y ∷ c) (suc n) g h k = rw (append_assoc, hour_more ps t c n (omega arith) (omega arith) (omega arith))

pub hours_none : (ps : List ℕ) (t c : List Float) (d : List ℕ) (at : ℕ) → at ≤ length d → Puts d at (hour_lines (take 0 ps) (take 0 t) (take 0 c)) d at (57 * 0)
unfolding hour_lines
hours_none ps t c d at h = record { wrote = wrote_none d at h; short = omega arith }

-- one hour more, of position p
pub hours-more : (ps : List ℕ) (t c : List Float) (n : ℕ) {p : ℕ} {d e f : List ℕ} {s m r : ℕ} → n < length ps → n < length t → n < length c
    → Puts d s (hour_lines (take n ps) (take n t) (take n c)) e m (57 * n) → Puts e m (hour_line p (at t n) (at c n)) f r 57 → p ≡ get_or ps n 0 → Puts d s (hour_lines (take (n + 1) ps) (take (n + 1) t) (take (n + 1) c)) f r (57 * (n + 1))
hours-more ps t c n g h k a b q = line-more 57 n a b (rw (q, add-one n) (hour_more ps t c n g h k))
