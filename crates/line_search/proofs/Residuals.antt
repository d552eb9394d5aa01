-- What the places of a trial add to the square of its residual, and their sum. Assumes nothing.
use mathlib.Core.Path.{◌≡◌, refl, ap, ◌∙◌}
use mathlib.Core.Bool.{false}
use mathlib.Core.List.{List}
use Prim.Native.Nat.{ℕ, ◌+◌, ◌-◌, ◌*◌, ◌≤◌, ◌<◌}
use native.Mathlib.Nat.{add-zero}
use native.Mathlib.Omega.{arith}
use lib.ListN.{length, set, take, drop}
use lib.Ieee.{Float, nan}
use Rattle.float64.proofs.Clash.{impossible}
use Rattle.vectors.specs.Vec.{at, list}
use Rattle.vectors.specs.Sums.{sum_to}
use Rattle.vectors.specs.Parts.{Kept}
use Rattle.vectors.proofs.Laws.{length-list, at-list, up}
use Rattle.vectors.proofs.Parts.{length_part, range_part, store_done}
use Rattle.vectors.proofs.Sums.{sum_ext}
use Rattle.gram.specs.Gram.{product}
use Rattle.dual_point.specs.Dual.{Dual}
use Rattle.dual_point.specs.Places.{point}
use Rattle.dual_point.proofs.Points.{point_ext}
use Rattle.newton_system.specs.Newton.{NewtonData, residual_square_at, residual_square}
use Rattle.newton_system.specs.Rows.{data_of, residual_square_of}
use Rattle.newton_system.proofs.Places.{square_place}
use Rattle.line_search.specs.Places.{Stretch, Squares}
use Rattle.line_search.proofs.Moves.{written_then, written_within}

-- places that may lie near the ends
pub near : {k m from to : ℕ} → from ≤ to → to ≤ m → Stretch k m from to false
near h l = record { some = h; end = l; away = λ t. impossible cc }

-- the trial stays as it is
trial_stays : {c : NewtonData} {m from to : ℕ} {s₀ s : List Float} → Squares c m from to s₀ s → point (3 * m) m s ≡ point (3 * m) m s₀
trial_stays {m = m} {s₀ = s₀} {s = s} w = point_ext (3 * m) (3 * m) m s s₀ (λ j l. w.each.below (3 * m + j) (omega arith))

-- one more place
pub squares_more : (k : ℕ) (g dy : List Float) (lam inv_t : Float) (m from i : ℕ) (s₀ s : List Float) (q x : Float)
    → Squares (data_of k g dy lam inv_t) m from i s₀ s → from ≤ i → i < m → 7 * m ≤ length s
    → q ≡ product k g (take (4 * m - 3 * m) (drop (3 * m) s)) i
    → x ≡ residual_square_at lam inv_t q (at dy i) (record { z = at s (3 * m + i); mu1 = at s (3 * m + m + i); mu2 = at s (3 * m + m + m + i) })
    → Squares (data_of k g dy lam inv_t) m from (i + 1) s₀ (set s (3 * m + 3 * m + i) x)
squares_more k g dy lam inv_t m from i s₀ s q x w o l n e h =
    let q-is : q ≡ product k g (point (3 * m) m s).z i = e ∙ ap (λ (v : List Float). product k g v i) (range_part (3 * m) (4 * m) m s (omega arith) (omega arith)) in
    let x-is : x ≡ residual_square_of (data_of k g dy lam inv_t) (point (3 * m) m s₀) i =
    h ∙ square_place k g dy lam inv_t (3 * m) m s i _ _ _ q l refl refl refl q-is ∙ ap (λ (p : Dual). residual_square_of (data_of k g dy lam inv_t) p i) (trial_stays w) in
    let to : 6 * m + (i + 1) ≡ 6 * m + i + 1 = omega arith in
    let place : 3 * m + 3 * m + i ≡ 6 * m + i = omega arith in
    let d : 6 * m + i - 6 * m ≡ i = omega arith in
    record { each = rw (to, place) (up w.each (omega arith) (omega arith) (x-is ∙ rw d)) }

-- one stretch, and then the next
pub squares_then : (c : NewtonData) {m from mid to : ℕ} {s₀ s s' : List Float} → Squares c m from mid s₀ s → Squares c m mid to s s' → from ≤ mid → mid ≤ to → Squares c m from to s₀ s'
squares_then c {m} v w o h =
    record { each = written_then v.each w.each (omega arith) (omega arith) (λ j _ _. ap (λ (p : Dual). residual_square_of c p (j - 6 * m)) (trial_stays v)) }

-- all of them: nothing else changed, and their sum
pub squares_kept : (c : NewtonData) {m : ℕ} {s₀ s : List Float} → Squares c m 0 m s₀ s → Kept (6 * m) m s₀ s
squares_kept c {m} w = written_within (6 * m) m w.each (omega arith) (omega arith)

pub squares_sum : (c : NewtonData) {m : ℕ} {s₀ s : List Float} {a : Float} → Squares c m 0 m s₀ s → 7 * m ≤ length s
    → a ≡ sum_to (at (take (7 * m - 6 * m) (drop (6 * m) s))) (length (take (7 * m - 6 * m) (drop (6 * m) s))) → a ≡ residual_square c (point (3 * m) m s₀)
unfolding residual_square
squares_sum c {m} {s₀} {s} w n e =
    let f : ℕ → Float = residual_square_of c (point (3 * m) m s₀) in
    let all : take (7 * m - 6 * m) (drop (6 * m) s) ≡ list m f =
    range_part (6 * m) (7 * m) m s (omega arith) n ∙ store_done nan (6 * m) m f s₀ s (rw add-zero at w.each) in
    e ∙ rw (all, length-list m f, length_part (3 * m) m s₀) (sum_ext (at (list m f)) f m (at-list m f))
