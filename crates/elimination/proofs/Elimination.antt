-- One row eliminated; the factor a row at a time, with the right side carried forward. Assumes nothing.
use mathlib.Core.Bool.{Bool, true, false}
use mathlib.Core.Logic.{⊎_elim}
use mathlib.Core.List.{List, [], ◌∷◌, ◌++◌}
use mathlib.Core.Path.{◌≡◌, refl, sym, ap, ◌∙◌}
use Prim.Native.Nat.{ℕ, zero, suc, ◌+◌, ◌-◌, ◌*◌, ◌≤◌, ◌<◌}
use native.Mathlib.Nat.{eq-or-lt_of_le, le_of_suc-le-suc, ne_of_lt, mul-le-mul_right}
use native.Mathlib.Numerals.{add-one}
use native.Mathlib.Omega.{arith}
use lib.ListN.{length, set, get_or-append}
use lib.Seq.{get_or_at, get_or-set_other}
use lib.Ieee.{Float, nan}
use Rattle.float64.proofs.Clash.{clash}
use Rattle.vectors.specs.Vec.{at}
use Rattle.vectors.specs.Parts.{part}
use Rattle.vectors.proofs.Parts.{length_part}
use Rattle.banded.specs.Rows.{Matrix, entry, placed, row_to, row, rows, sound, good}
use Rattle.banded.specs.Solve.{forward_at, forward}
use Rattle.banded.specs.Run.{flat, look, of_run, Keeps, Holds, Stands, Factored, HasRow, Stored, Eliminated}
use Rattle.banded.proofs.Laws.{within, one_row, above, entry_ext, length-row_to, line_above, line-here, holds_none, holds_snoc, holds_kept, of_holds, unsound, part_stands, stands_part}
use Rattle.banded.proofs.Forward.{forward_ext, length-forward, forward-rows}
use Rattle.banded.proofs.Storing.{stored}
use Rattle.elimination.specs.Decomposed.{Reached, Decomposed}

-- ---- a row stored whole that is the factor's, and its place carried forward

pub eliminated : {k m r : ℕ} {v : ℕ → Float} {x : Float} {s₀ s : List Float} {ok : Bool} → Stored k m r v x s₀ s
    → ((c : ℕ) → c ≤ k → v c ≡ placed k (entry k (of_run k s₀) (of_run k s)) r c) → x ≡ forward_at k (of_run k s) (λ j. at s (m * (k + 1) + j)) (at s₀ (m * (k + 1) + r)) r
    → ok ≡ good (v k) → Eliminated k m r s₀ s ok
eliminated {k} st made is g =
    record { elsewhere = st.elsewhere; made = λ c h. st.row c h ∙ made c h; carried = st.side ∙ is; pivot = g ∙ ap good (sym (st.row k (omega arith))) }

-- a row in its place, and then the right side
pub eliminated_any : {k m r : ℕ} {s₀ s : List Float} {x : Float} {ok : Bool} (q : ℕ) → Factored k r (k + 1) s₀ s → HasRow k m r (length s₀) → q ≡ m * (k + 1) + r
    → x ≡ forward_at k (of_run k s) (λ j. at s (m * (k + 1) + j)) (at s q) r → ok ≡ good (flat k s r k) → Eliminated k m r s₀ (set s q x) ok
eliminated_any {k} {m} {r} {s₀} {s} {x} {ok} q w has e is g =
    let p = r * (k + 1) in
    let h = has.row in
    let room : (r + 1) * (k + 1) ≤ m * (k + 1) = mul-le-mul_right (k + 1) (omega arith) in
    let one = one_row k r in
    let here : (i j : ℕ) → i ≤ r → j ≤ k → flat k s i j ≡ flat k (set s q x) i j =
    λ i j u h. sym (get_or-set_other s q (i * (k + 1) + j) x nan (ne_of_lt (omega (arith, within k r i j (m * (k + 1)) room u h)))) in
    let same : (j : ℕ) → p ≤ j → at s j ≡ at s (p + (j - p)) = λ j a. let z : j ≡ p + (j - p) = omega arith in ap (at s) z in
    eliminated {v = flat k s r}
    (stored {s = s} p q refl e has (record { size = w.kept.size; inside = λ j a b. same j a; below = w.kept.below; above = w.kept.above }))
    (λ c u.
    w.made c (omega arith)
    ∙ entry_ext k r c (of_run k s₀) (of_run k s₀) (flat k s) (flat k (set s q x)) u (λ h. refl) (λ i j h l. here i j (omega arith) l) (λ j h. here r j (omega arith) (omega arith)))
    (is
    ∙ forward_ext k r (flat k s) (flat k (set s q x)) (λ j. at s (m * (k + 1) + j)) (λ j. at (set s q x) (m * (k + 1) + j)) (at s q)
    (λ c h. here r c (omega arith) (omega arith)) (λ j h. sym (get_or-set_other s q (m * (k + 1) + j) x nan (ne_of_lt (omega arith))))
    ∙ ap (λ (v : Float). forward_at k (of_run k (set s q x)) (λ j. at (set s q x) (m * (k + 1) + j)) v r) (ap (at s) e ∙ w.kept.above (m * (k + 1) + r) (omega arith)))
    g

-- ---- the first rows of the factor: none

pub reached_none : (k m : ℕ) (a : Matrix) (v s : List Float) → Reached k m 0 a v s
unfolding rows sound forward
reached_none k m a v s = record { made = holds_none k s; firm = refl; side = λ j h. absurd (omega arith) }

-- what lies ahead may change
pub reached_kept : {k m r : ℕ} {a : Matrix} {v s s' : List Float} → Reached k m r a v s → ((q : ℕ) → q < r * (k + 1) → at s' q ≡ at s q)
    → ((j : ℕ) → j < r → at s' (m * (k + 1) + j) ≡ at s (m * (k + 1) + j)) → Reached k m r a v s'
reached_kept {k} {m} {r} {a} {v} h e g = record { made = holds_kept h.made e; firm = h.firm; side = λ j u. g j (omega (arith, length-forward k (rows k a r) v r)) ∙ h.side j u }

-- one more row: the run kept row r of a in its place, and had place r of v after the rows
module _ {k m r : ℕ} {a : Matrix} {v s₀ s : List Float} {ok : Bool} (h : Reached k m r a v s₀) (e : Eliminated k m r s₀ s ok) (b : r < m)
    (had : (j : ℕ) → j ≤ r → r ≤ j + k → of_run k s₀ r j ≡ a r j) (right : at s₀ (m * (k + 1) + r) ≡ at v r) where
  abbrev f : List (List Float)
  f = rows k a r

  places : (n : ℕ) → n ≤ k + 1 → (j : ℕ) → j < n → flat k s r j ≡ at (row_to k a f r n) j
  unfolding row_to
  places zero u j w = absurd (omega arith)
  places (suc n) u j w =
      let p = row_to k a f r n in
      ⊎_elim
      (λ (z : j ≡ n).
      rw z (e.made n (omega arith)
      ∙ entry_ext k r n (of_run k s₀) a (flat k s) (look (f ++ (p ∷ []))) (omega arith) (λ g. had (r + n - k) (omega arith) (omega arith))
      (λ i c x g. e.elsewhere.below (i * (k + 1) + c) (above k r i c x g) ∙ h.made.same i c x g ∙ sym (ap (λ (l : List Float). at l c) (line_above f p i (omega (arith, h.made.shape.count)))))
      (λ c x. places n (omega arith) c x ∙ sym (ap (λ (l : List Float). at l c) (line-here f p r h.made.shape.count)))
      ∙ sym (get_or_at p _ [] nan n (length-row_to k a f r n))))
      (λ (z : j < n). places n (omega arith) j z ∙ sym (get_or-append p _ nan j (omega (arith, length-row_to k a f r n))))
      (eq-or-lt_of_le (le_of_suc-le-suc w))

  next : Holds k (r + 1) (f ++ (row k a f r ∷ [])) s
  unfolding row
  next = holds_snoc (row_to k a f r (k + 1)) (holds_kept h.made e.elsewhere.below) (length-row_to k a f r (k + 1)) (λ j g. places (k + 1) (omega arith) j (omega arith))

  pivot : flat k s r k ≡ at (row k a f r) k
  pivot = next.same r k (omega arith) (omega arith) ∙ ap (λ (l : List Float). at l k) (line-here f (row k a f r) r h.made.shape.count)

  carried : Stands (m * (k + 1)) (forward k (f ++ (row k a f r ∷ [])) v (suc r)) s
  unfolding forward
  carried j u =
      let g = f ++ (row k a f r ∷ []) in
      let same : forward k g v r ≡ forward k f v r = forward-rows k g f v r (λ i x. line_above f (row k a f r) i (omega (arith, h.made.shape.count))) in
      let n = length-forward k f v r in
      let room : (r + 1) * (k + 1) ≤ m * (k + 1) = mul-le-mul_right (k + 1) (omega arith) in
      let old : (i : ℕ) → i < r → at s (m * (k + 1) + i) ≡ at (forward k f v r) i = λ i x. e.elsewhere.between (m * (k + 1) + i) (omega arith) (omega arith) ∙ h.side i (omega arith) in
      rw same
      (⊎_elim
      (λ (z : j ≡ r).
      rw z (e.carried ∙ rw right
      (forward_ext k r (flat k s) (look g) (λ i. at s (m * (k + 1) + i)) (at (forward k f v r)) (at v r) (λ c x. next.same r c (omega arith) (omega arith)) old)
      ∙ sym (get_or_at (forward k f v r) _ [] nan r n)))
      (λ (z : j < r). old j z ∙ sym (get_or-append (forward k f v r) _ nan j (omega arith)))
      (eq-or-lt_of_le (omega (arith, length-forward k g v (suc r)))))

  pub reached-more : ok ≡ true → Reached k m (r + 1) a v s
  unfolding rows sound
  reached-more t = rw (add-one r) (record { made = rw (add-one r) at next; firm = rw (h.firm, ← pivot, ← e.pivot) t; side = carried })

  pub reached_bad : ok ≡ false → sound k a m ≡ false
  unfolding sound
  reached_bad t = unsound k a (suc r) m (rw (h.firm, ← pivot, ← e.pivot) t) b

-- ---- the factor loop after r rows: what it has not reached stays, and what it has is the factor of whatever matrix the run began with

pub record Factoring (k m r : ℕ) (s₀ s : List Float) : Type 0 where
  pub some : r ≤ m
  pub size : length s ≡ length s₀
  pub lower : (q : ℕ) → r * (k + 1) ≤ q → q < m * (k + 1) → at s q ≡ at s₀ q
  pub later : (q : ℕ) → m * (k + 1) + r ≤ q → at s q ≡ at s₀ q
  pub done : (a : Matrix) (v : List Float) → Keeps k m a s₀ → Stands (m * (k + 1)) v s₀ → length v ≡ m → Reached k m r a v s

pub factoring_none : (k m : ℕ) (s : List Float) → Factoring k m 0 s s
factoring_none k m s = record { some = omega arith; size = refl; lower = λ q h g. refl; later = λ q h. refl; done = λ a v h st l. reached_none k m a v s }

module _ {k m r : ℕ} {s₀ s s' : List Float} {ok : Bool} (w : Factoring k m r s₀ s) (e : Eliminated k m r s s' ok) (b : r < m) where
  later_more : (q : ℕ) → m * (k + 1) + (r + 1) ≤ q → at s' q ≡ at s₀ q
  later_more q h = e.elsewhere.above q (omega arith) ∙ w.later q (omega arith)

  size-more : length s' ≡ length s₀
  size-more = e.elsewhere.size ∙ w.size

  module _ (a : Matrix) (v : List Float) (h : Keeps k m a s₀) (st : Stands (m * (k + 1)) v s₀) (l : length v ≡ m) where
    had : (j : ℕ) → j ≤ r → r ≤ j + k → of_run k s r j ≡ a r j
    had j g z = w.lower (r * (k + 1) + (j + k - r)) (omega arith) (above k m r (j + k - r) b (omega arith)) ∙ h r j b g z

    right : at s (m * (k + 1) + r) ≡ at v r
    right = w.later (m * (k + 1) + r) (omega arith) ∙ st r (omega arith)

  pub factoring_more : ok ≡ true → Factoring k m (r + 1) s₀ s'
  factoring_more t =
      let one = one_row k r in
      record {
        some = omega arith;
        size = size-more;
        lower = λ q h g. e.elsewhere.between q h (omega arith) ∙ w.lower q (omega arith) g;
        later = later_more;
        done = λ a v h st l. reached-more (w.done a v h st l) e b (had a v h st l) (right a v h st l) t;
      }

  pub factoring_bad : ok ≡ false → Decomposed k m s₀ s' false
  factoring_bad t = record {
    kept = record { size = size-more; below = λ j h. absurd (omega arith); above = λ q h. later_more q (omega arith) };
    answer = λ a g.
        let n = m * (k + 1) in
        let v = part n m s₀ in
        let l = length_part n m s₀ in
        let st = part_stands n m s₀ in
        sym (reached_bad (w.done a v g st l) e b (had a v g st l) (right a v g st l) t);
    factor = λ a g y. absurd (clash y refl);
    side = λ a g y. absurd (clash y refl);
  }

module _ {k m r : ℕ} {s₀ s : List Float} (w : Factoring k m r s₀ s) (z : r ≡ m) where
  all : (a : Matrix) → Keeps k m a s₀ → Reached k m m a (part (m * (k + 1)) m s₀) s
  all a g =
      let n = m * (k + 1) in
      rw z at (w.done a (part n m s₀) g (part_stands n m s₀) (length_part n m s₀))

  pub factoring_done : Decomposed k m s₀ s true
  factoring_done =
      let n = m * (k + 1) in
      let v = part n m s₀ in
      record {
        kept = record { size = w.size; below = λ j h. absurd (omega arith); above = λ q h. w.later q (omega arith) };
        answer = λ a g. sym (all a g).firm;
        factor = λ a g y. of_holds k m (rows k a m) s (all a g).made;
        side = λ a g y. stands_part n m (forward k (rows k a m) v m) s (length-forward k (rows k a m) v m) (all a g).side;
      }
