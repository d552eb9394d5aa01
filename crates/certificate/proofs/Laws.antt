-- Laws of the certificate: the places of its vectors, the pass over them, and the whole. Assumes nothing.
use mathlib.Core.Path.{◌≡◌, refl, sym, ap, ap₂, ◌∙◌}
use mathlib.Core.List.{List}
use Prim.Native.Nat.{ℕ, ◌+◌, ◌-◌, ◌≤◌, ◌<◌}
use native.Mathlib.Omega.{arith}
use lib.ListN.{length, take, drop, set}
use lib.Seq.{get_or-take}
use lib.Ieee.{Float, nan, neg}
use Rattle.float64.specs.Ops.{◌⊕◌, ◌⊖◌, ◌⊗◌, c0, half}
use Rattle.float64.specs.Helpers.{abs_of, clamp_of}
use Rattle.vectors.specs.Vec.{at, put}
use Rattle.vectors.specs.Parts.{part, Written}
use Rattle.vectors.specs.Sums.{sum_to, norm2_sq, dot, sum_abs}
use Rattle.vectors.proofs.Laws.{length-list, at-list, list_is, up, front}
use Rattle.vectors.proofs.Parts.{part_of_ext, range_part, first_part, length_part, at_part}
use Rattle.vectors.proofs.Texts.{put_start}
use Rattle.vectors.proofs.Sums.{sum_more, sum_ext}
use Rattle.differences.specs.Diff.{diff_k, diff_kt}
use Rattle.differences.proofs.Laws.{length-diff_k, length-diff_kt}
use Rattle.certificate.specs.Certificate.{minus, clamped, dual_value, certify}
use Rattle.certificate.specs.Run.{dual_of, fall_of, trend_of, Trend, Passed, Last, Summed, Certified}
use Rattle.certificate.specs.Ready.{Ready}
use Rattle.certificate.specs.declared.Sums.{Sums}

-- ---- the places

pub length-minus : (a b : List Float) → length (minus a b) ≡ length a
unfolding minus
length-minus a b = length-list (length a) (λ i. at a i ⊖ at b i)

pub at-minus : (a b : List Float) (i : ℕ) → i < length a → at (minus a b) i ≡ at a i ⊖ at b i
unfolding minus
at-minus a b i h = at-list (length a) (λ i. at a i ⊖ at b i) i h

pub length-clamped : (lam : Float) (z : List Float) → length (clamped lam z) ≡ length z
unfolding clamped
length-clamped lam z = length-list (length z) (λ i. clamp_of (at z i) lam)

pub at-clamped : (lam : Float) (z : List Float) (i : ℕ) → i < length z → at (clamped lam z) i ≡ clamp_of (at z i) lam
unfolding clamped
at-clamped lam z i h = at-list (length z) (λ i. clamp_of (at z i) lam) i h

-- only as many places of b are read as a has
pub dot-take : (a b c : List Float) (m : ℕ) → length a ≡ m → take m b ≡ c → dot a b ≡ dot a c
unfolding dot
dot-take a b c m e h =
    sum_ext (λ i. at a i ⊗ at b i) (λ i. at a i ⊗ at c i) (length a)
    (λ j l. ap (λ (x : Float). at a j ⊗ x) (sym (get_or-take m b j nan (omega arith)) ∙ ap (λ (v : List Float). at v j) h))

-- the dual point stays while the trend before it is written
pub behind : (n m j : ℕ) (f : ℕ → Float) (s₀ s : List Float) → Written 0 j f s₀ s → j ≤ n → n + m ≤ length s
    → take (n + m - n) (drop n s) ≡ part n m s₀
behind n m j f s₀ s w h l = range_part n (n + m) m s refl l ∙ part_of_ext nan n n m s s₀ (λ q _. w.above (n + q) (omega arith))

-- ---- the pass over the places

-- one more place of the trend, where D'z is d
module _ {k : ℕ} {y s₀ s : List Float} {j : ℕ} {a d : Float} (t : Trend k y s₀ s j a) (h : j < length y) (l : length y + (length y - k) ≤ length s)
    (e : d ≡ at (diff_kt k (take (length y + (length y - k) - length y) (drop (length y) s))) j) where
  fallen : d ≡ at (fall_of k y s₀) j
  fallen = e ∙ ap (λ (q : List Float). at (diff_kt k q) j) (behind (length y) (length y - k) j _ s₀ s t.written (omega arith) l)

  pub stored : at y j ⊖ d ≡ at (trend_of k y s₀) j
  stored = ap (λ (x : Float). at y j ⊖ x) fallen ∙ sym (at-minus y (fall_of k y s₀) j h)

  pub trend_more : Trend k y s₀ (set s j (at y j ⊖ d)) (j + 1) (a ⊕ d ⊗ d)
  trend_more = record {
    written = up t.written (omega arith) (omega arith) stored;
    squared = sum_more _ _ _ _ t.squared (ap (λ (x : Float). x ⊗ x) fallen);
  }

-- one more place of all three sums
pub passed_more : {k : ℕ} {y dy s₀ s : List Float} {j : ℕ} {a b g d x : Float} → Passed k y dy s₀ s j (record { squares = a; dx = b; dot = g })
    → k ≤ j → j < length y → length y + (length y - k) ≤ length s
    → d ≡ at (diff_kt k (take (length y + (length y - k) - length y) (drop (length y) s))) j → x ≡ abs_of (at (diff_k k (trend_of k y s₀)) (j - k))
    → Passed k y dy s₀ (set s j (at y j ⊖ d)) (j + 1)
    (record { squares = a ⊕ d ⊗ d; dx = b ⊕ x; dot = g ⊕ at (set s j (at y j ⊖ d)) (length y + j - k) ⊗ at dy (j - k) })
passed_more {k} {y} {dy} {s₀} {s} {j} p o h l e f =
    let t = trend_more p.trend h l e in
    let q : j + 1 - k ≡ j - k + 1 = omega arith in
    let z = t.written.above (length y + j - k) (omega arith) ∙ sym (at_part (length y) (length y - k) s₀ (j - k) (length y + j - k) (omega arith) (omega arith)) in
    record {
      trend = t;
      jumped = rw q (sum_more _ _ _ _ p.jumped f);
      multiplied = rw q (sum_more _ _ _ _ p.multiplied (ap (λ (x : Float). x ⊗ at dy (j - k)) z));
    }

pub last_more : {k : ℕ} {x : List Float} {j : ℕ} {x1 x2 v : Float} → 1 ≤ j → v ≡ at x j → Last k x j x1 x2 → Last k x (j + 1) v x1
last_more {x = x} {j} o e l =
    let q : j + 1 - 1 ≡ j = omega arith in
    let f : j + 1 - 2 ≡ j - 1 = omega arith in
    record { near = rw q e; far = λ _. rw f l.near }

-- the first k places, and all of them
pub passed_none : {k : ℕ} {y s₀ s : List Float} {a : Float} (dy : List Float) → Trend k y s₀ s k a → Passed k y dy s₀ s k (record { squares = a; dx = c0; dot = c0 })
unfolding sum_to
passed_none {k} dy t = let e : k - k ≡ 0 = omega arith in record { trend = t; jumped = rw e; multiplied = rw e }

pub passed_all : {k : ℕ} {y dy s₀ s : List Float} {c : Sums} → Passed k y dy s₀ s (length y) c → k ≤ length y → length y ≤ length s → Summed k y dy s₀ s c
unfolding norm2_sq sum_abs dot
passed_all {k} {y} {dy} {s₀} {s} p o h =
    let w = p.trend.written in
    let x = trend_of k y s₀ in
    let lx = length-minus y (fall_of k y s₀) in
    let lz = length_part (length y) (length y - k) s₀ in
    let lw : length (fall_of k y s₀) ≡ length y = length-diff_kt k (dual_of k y s₀) ∙ omega arith in
    let ld : length (diff_k k x) ≡ length y - k = length-diff_k k x ∙ omega arith in
    record {
      trend = sym (first_part (length y) s h) ∙ front w h ∙ sym (rw lx at (list_is nan x));
      squared = rw lw p.trend.squared;
      jumped = rw ld p.jumped;
      multiplied = rw lz p.multiplied;
      kept = record { size = w.size; below = λ j u. absurd (omega arith); above = λ j u. w.above j (omega arith) };
    }

-- ---- the whole certificate

-- the trend has been written into s₀, with its sums c, and the clamped dual point into d₀
pub certified : {k : ℕ} {y dy s₀ s : List Float} {c : Sums} {p g : Float} → Ready k y dy (length y + (length y - k)) (length s₀) → Summed k y dy s₀ s c
    → (lam : Float) (d₀ d : List Float) → length y - k ≤ length d₀ → p ≡ half ⊗ c.squares ⊕ lam ⊗ c.dx
    → g ≡ dual_value k dy (clamped lam (dual_of k y s₀)) → d ≡ put d₀ 0 (clamped lam (dual_of k y s₀)) → Certified k y lam s₀ s d₀ d p g
unfolding certify
certified {k} {y} {dy} {s₀} r t lam d₀ d fits isp q e =
    let zc = clamped lam (dual_of k y s₀) in
    let l : length zc ≡ length y - k = length-clamped lam (dual_of k y s₀) ∙ length_part (length y) (length y - k) s₀ in
    let h = put_start (length y - k) d₀ zc d e l fits in
    record {
      trend = t.trend;
      primal_is = isp ∙ ap₂ (λ (u v : Float). half ⊗ u ⊕ lam ⊗ v) t.squared t.jumped;
      dual_is = q ∙ ap (λ (v : Float). neg half ⊗ norm2_sq (diff_kt k zc) ⊕ v) (dot-take zc dy (diff_k k y) (length y - k) l r.known);
      zc_is = h.0;
      kept = t.kept;
      dual_kept = h.1;
    }
