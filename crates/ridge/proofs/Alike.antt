-- Rows that are alike: those of I + lam D'D from row k up to the last k, and a run in which a row is repeated.
use mathlib.Core.Logic.{⊎_elim}
use mathlib.Core.Path.{◌≡◌, sym, ◌∙◌}
use mathlib.Core.List.{List}
use Prim.Native.Nat.{ℕ, zero, suc, ◌+◌, ◌-◌, ◌*◌, ◌≤◌, ◌<◌}
use native.Mathlib.Nat.{eq-or-lt_of_le, eq-zero-or-pos, ne_of_lt, ne_of_gt, min-eq_left, suc-mul, add-mul, one-mul, mul-le-mul_right}
use native.Mathlib.Omega.{arith}
use lib.ListN.{length, set, length-set}
use lib.Seq.{get_or-set_same, get_or-set_other}
use lib.Ieee.{Float, nan}
use borrow.Author.Tests.{eq-eqb, ne_eqb}
use Rattle.float64.specs.Ops.{◌⊗◌}
use Rattle.vectors.specs.Vec.{at}
use Rattle.vectors.proofs.Laws.{kept_none}
use Rattle.banded.specs.Rows.{Matrix, placed}
use Rattle.banded.specs.Run.{flat}
use Rattle.banded.proofs.Laws.{above, placed_at}
use Rattle.vectors.specs.Sums.{more, more_from}
use Rattle.vectors.proofs.Sums.{more_ext}
use Rattle.banded.specs.Layout.{Laid}
use Rattle.ridge.specs.Layout.{Repeated}
use Rattle.ridge.specs.Ridge.{identity_at, ridge}

-- ---- one more place repeated

pub repeat_none : (w b : ℕ) (s : List Float) → Repeated w b 0 s s
repeat_none w b s = record { kept = kept_none b 0 s; same = λ q h g. absurd (omega arith) }

pub repeat-more : {w b n : ℕ} {s₀ s : List Float} → Repeated w b n s₀ s → 1 ≤ w → w ≤ b → b + n < length s → Repeated w b (n + 1) s₀ (set s (b + n) (at s (b + n - w)))
repeat-more {w} {b} {n} {s₀} {s} r h g fits =
    let x = at s (b + n - w) in
    let p = b + n in
    let other : (q : ℕ) → q < p → at (set s p x) q ≡ at s q = λ q l. get_or-set_other s p q x nan (ne_of_lt l) in
    record {
      kept = record {
        size = length-set s p x ∙ r.kept.size;
        below = λ q l. other q (omega arith) ∙ r.kept.below q l;
        above = λ q l. get_or-set_other s p q x nan (ne_of_gt (omega arith)) ∙ r.kept.above q (omega arith);
      };
      same = λ q l u.
          ⊎_elim
          (λ (e : q ≡ p). rw e (get_or-set_same s p x nan fits ∙ sym (other (p - w) (omega arith))))
          (λ (v : q < p). other q v ∙ r.same q l (omega arith) ∙ sym (other (q - w) (omega arith)))
          (eq-or-lt_of_le (omega arith));
    }

-- ---- a matrix whose rows from r up to e are alike

module _ {k r e n : ℕ} {a : Matrix} {v s s' : List Float} (w : Laid k r a v s) (h : Repeated (k + 1) (r * (k + 1)) n s s') (some : 1 ≤ r) (o : r ≤ e) (span : r * (k + 1) + n ≡ e * (k + 1))
    (alike : (i j : ℕ) → r ≤ i → i < e → j ≤ k → placed k a i j ≡ placed k a (i - 1) j) where
  first : (i j : ℕ) → i < r → j ≤ k → flat k s' i j ≡ placed k a i j
  first i j l g = h.kept.below (i * (k + 1) + j) (above k r i j l g) ∙ w.same i j l g

  all : (i : ℕ) → i < e → (j : ℕ) → j ≤ k → flat k s' i j ≡ placed k a i j
  all zero l j g = first 0 j (omega arith) g
  all (suc i) l j g =
      ⊎_elim
      (λ (z : r - suc i ≡ 0).
      let q : suc i * (k + 1) + j - (k + 1) ≡ i * (k + 1) + j = omega (arith, suc-mul i (k + 1)) in
      let p : suc i - 1 ≡ i = omega arith in
      let lo : r * (k + 1) ≤ suc i * (k + 1) = mul-le-mul_right (k + 1) (omega arith) in
      (rw q at (h.same (suc i * (k + 1) + j) (omega arith) (omega (arith, above k e (suc i) j l g)))) ∙ all i (omega arith) j g ∙ sym (rw p at (alike (suc i) j (omega arith) l g)))
      (λ (z : 0 < r - suc i). first (suc i) j (omega arith) g)
      (eq-zero-or-pos (r - suc i))

  pub laid_repeat : Laid k e a v s'
  laid_repeat = record {
    kept = record {
      size = h.kept.size ∙ w.kept.size;
      below = λ q l. absurd (omega arith);
      above = λ q l. h.kept.above q (omega arith) ∙ w.kept.above q (omega arith);
    };
    same = λ i j l g. all i l j g;
  }

-- ---- the rows of I + lam D'D

row-less : (i k t : ℕ) → k ≤ i → t ≤ k → i - (i - k + t) ≡ k - t
row-less i k t h g = omega arith

column_less : (i k p t : ℕ) → k ≤ i → t ≤ p → i + p - k - (i - k + t) ≡ p - t
column_less i k p t h g = omega arith

identity_place : (k i p : ℕ) → k ≤ i → p ≤ k → identity_at i (i + p - k) ≡ identity_at k p
identity_place k i p h g =
    ⊎_elim
    (λ (e : p ≡ k). rw (eq-eqb i (i + p - k) (omega arith), eq-eqb k p (sym e)))
    (λ (l : p < k). rw (ne_eqb i (i + p - k) (ne_of_gt (omega arith)), ne_eqb k p (ne_of_gt l)))
    (eq-or-lt_of_le g)

ridge_inner : (k : ℕ) (c : List Float) (lam : Float) (n i p : ℕ) → k ≤ i → i < n - k → p ≤ k
    → placed k (ridge k c lam n) i p ≡ more (identity_at k p) (λ t. lam ⊗ at c (k - t) ⊗ at c (p - t)) (p + 1)
unfolding ridge more_from
ridge_inner k c lam n i p h l g =
    let z : i + p - k + 1 - (i - k) ≡ p + 1 = omega arith in
    placed_at k (ridge k c lam n) i p (i + p - k) (omega arith)
    ∙ rw (identity_place k i p h g, min-eq_left {n = i + p - k + 1} {m = n - k} (omega arith), z)
    (more_ext (identity_at k p) _ _ (p + 1)
    (λ t u. rw (row-less i k t h (omega arith), column_less i k p t h (omega arith))))

pub ridge_alike : (k : ℕ) (c : List Float) (lam : Float) (n i p : ℕ) → k < i → i < n - k → p ≤ k → placed k (ridge k c lam n) i p ≡ placed k (ridge k c lam n) (i - 1) p
ridge_alike k c lam n i p h l g = ridge_inner k c lam n i p (omega arith) l g ∙ sym (ridge_inner k c lam n (i - 1) p (omega arith) (omega arith) g)

-- ---- the places of rows w up to m, of w numbers each

pub rows_span : (w m : ℕ) → w ≤ m → w * w + (m - w) * w ≡ m * w
rows_span w m h = let e : w + (m - w) ≡ m = omega arith in sym (add-mul w (m - w) w) ∙ rw e

pub rows-room : (w m n l : ℕ) → 1 ≤ w → w ≤ m → m ≤ n → n * w ≤ l → (w ≤ w * w) × (w * w + (m - w) * w ≤ l)
rows-room w m n l some h g room =
    let one : 1 * w ≤ w * w = mul-le-mul_right w some in
    let f : m * w ≤ n * w = mul-le-mul_right w g in
    let e = rows_span w m h in
    (omega (arith, one-mul w), omega arith)
