-- Rows, and the run that holds them.
use mathlib.Core.Bool.{Bool, true, false, cond}
use mathlib.Core.Logic.{⊎_elim}
use mathlib.Core.List.{List, [], ◌∷◌, ◌++◌}
use mathlib.Core.Path.{◌≡◌, refl, sym, ap, ◌∙◌}
use Prim.Native.Nat.{ℕ, zero, suc, ◌+◌, ◌-◌, ◌*◌, ◌/◌, ◌%◌, ◌≤◌, ◌<◌}
use native.Mathlib.Nat.{mul-le-mul_right, add-mul, one-mul, suc-mul, mul-suc, zero-mul, zero-add, eq-or-lt_of_le, le_of_suc-le-suc, ne_of_lt, ne_of_gt, mod-lt, div-add-mod', div-lt_iff_lt-mul}
use native.Mathlib.Numerals.{add-one}
use native.Mathlib.Omega.{arith}
use lib.Dec.{ltb}
use lib.ListN.{length, set, take, drop, length-append, length-set, get_or-append}
use lib.Seq.{get_or_at, get_or-set_same, get_or-set_other, get_or-take, get_or-append-add, ext_get_or}
use lib.Ieee.{Float, nan, binary64, of_bits, sub}
use borrow.Author.Tests.{ltb-true, ltb-false, le-ltb}
use Rattle.vectors.specs.Vec.{at}
use Rattle.vectors.specs.Parts.{part}
use Rattle.vectors.proofs.Laws.{cond_cong, kept_none}
use Rattle.vectors.proofs.Parts.{length_part, at_part, part_of_range}
use Rattle.banded.specs.Rows.{Matrix, line, less, less_from, reduced, entry, placed, row_to, row, rows, sound}
use Rattle.banded.specs.Run.{concat, flat, look, of_run, Keeps, Shape, Holds, Stands, Factored, HasRow}

-- ---- places of rows

-- a place of row r or of a row above it lies within r + 1 rows
pub within : (k r r' c n : ℕ) → (r + 1) * (k + 1) ≤ n → r' ≤ r → c ≤ k → r' * (k + 1) + c < n
within k r r' c n h p q =
    let e : (r' + 1) * (k + 1) ≡ r' * (k + 1) + 1 * (k + 1) = add-mul r' 1 (k + 1) in
    let f : (r' + 1) * (k + 1) ≤ (r + 1) * (k + 1) = mul-le-mul_right (k + 1) (omega arith) in
    let g : 1 * (k + 1) ≡ k + 1 = one-mul (k + 1) in
    omega arith

pub rows_fit : (k r m n : ℕ) → r < m → m * (k + 1) ≤ n → (r + 1) * (k + 1) ≤ n
rows_fit k r m n h g =
    let f : (r + 1) * (k + 1) ≤ m * (k + 1) = mul-le-mul_right (k + 1) (omega arith) in
    omega arith

pub row_fits : {k m r n : ℕ} → HasRow k m r n → (r + 1) * (k + 1) ≤ n
row_fits {k} {m} {r} {n} h = let room = h.room in rows_fit k r m n h.row (omega arith)

pub one_row : (k r : ℕ) → (r + 1) * (k + 1) ≡ r * (k + 1) + (k + 1)
one_row k r = add-mul r 1 (k + 1) ∙ rw (one-mul (k + 1))

pub wide : (k r : ℕ) → r ≤ r * (k + 1)
wide k r = omega (arith, rw (← add-one k) at (mul-suc r k))

pub wide_row : (k m : ℕ) → 1 ≤ m → k + 1 ≤ m * (k + 1)
wide_row k m h = let e = one-mul (k + 1) in let f : 1 * (k + 1) ≤ m * (k + 1) = mul-le-mul_right (k + 1) h in omega arith

-- the column of place t of row r, in the row of the column of place c
pub across : (k r c t : ℕ) → k ≤ r + t → t ≤ c → r + t - k + k - (r + c - k) ≡ t + k - c
across k r c t h g = omega arith

-- a row above ends before row r begins
pub above : (k r i j : ℕ) → i < r → j ≤ k → i * (k + 1) + j < r * (k + 1)
above k r i j h g =
    let e : (i + 1) * (k + 1) ≤ r * (k + 1) = mul-le-mul_right (k + 1) (omega arith) in
    within k i i j (r * (k + 1)) e (omega arith) g

-- ---- what a sum, and an entry, read

less_ext : (v : Float) (f g : ℕ → Float) (n : ℕ) → ((i : ℕ) → i < n → f i ≡ g i) → less v f n ≡ less v g n
unfolding less
less_ext v f g zero h = refl
less_ext v f g (suc n) h = rw (less_ext v f g n (λ i b. h i (omega arith)), h n (omega arith))

-- one more term
less-more : (v : Float) (f : ℕ → Float) (n : ℕ) {n' : ℕ} {u x : Float} → u ≡ less v f n → x ≡ f n → n' ≡ suc n → sub binary64 u x ≡ less v f n'
unfolding less
less-more v f n e h m = rw (m, e, h)

-- the same from place lo on
pub less_from_none : (v : Float) (f : ℕ → Float) (lo hi : ℕ) → hi ≤ lo → less_from v f lo hi ≡ v
unfolding less_from less
less_from_none v f lo hi h = let z : hi - lo ≡ 0 = omega arith in rw z

pub less_from-more : (v : Float) (f : ℕ → Float) (lo hi : ℕ) {hi' : ℕ} {u x : Float} → u ≡ less_from v f lo hi → x ≡ f hi → lo ≤ hi → hi' ≡ hi + 1 → sub binary64 u x ≡ less_from v f lo hi'
unfolding less_from
less_from-more v f lo hi e h g m = let z : lo + (hi - lo) ≡ hi = omega arith in less-more v (λ n. f (lo + n)) (hi - lo) e (h ∙ rw z) (omega arith)

pub less_from_ext : (v : Float) (f g : ℕ → Float) (lo hi : ℕ) → ((t : ℕ) → lo ≤ t → t < hi → f t ≡ g t) → less_from v f lo hi ≡ less_from v g lo hi
unfolding less_from
less_from_ext v f g lo hi h = less_ext v _ _ (hi - lo) (λ n b. h (lo + n) (omega arith) (omega arith))

-- one term, and two
pub less_from_1 : (v : Float) (f : ℕ → Float) (lo hi : ℕ) → hi ≡ lo + 1 → less_from v f lo hi ≡ sub binary64 v (f lo)
less_from_1 v f lo hi e = sym (less_from-more v f lo lo (sym (less_from_none v f lo lo (omega arith))) refl (omega arith) e)

pub less_from_2 : (v : Float) (f : ℕ → Float) (lo mid hi : ℕ) → mid ≡ lo + 1 → hi ≡ mid + 1 → less_from v f lo hi ≡ sub binary64 (sub binary64 v (f lo)) (f mid)
less_from_2 v f lo mid hi e g = sym (less_from-more v f lo mid (sym (less_from_1 v f lo mid e)) refl (omega arith) g)

cond_right : (b : Bool) (x y z : Float) → (b ≡ false → x ≡ y) → cond b z x ≡ cond b z y
cond_right true x y z h = refl
cond_right false x y z h = h refl

-- a place that stands for no column does not read the matrix
pub placed_ext : (k : ℕ) (a a' : Matrix) (i c : ℕ) → (k ≤ i + c → a i (i + c - k) ≡ a' i (i + c - k)) → placed k a i c ≡ placed k a' i c
unfolding placed
placed_ext k a a' i c h = cond_right (ltb (i + c) k) _ _ (of_bits binary64 0) (λ e. h (ltb-false (i + c) k e))

-- where it stands for one
pub placed_at : (k : ℕ) (a : Matrix) (i c j : ℕ) → j + k ≡ i + c → placed k a i c ≡ a i j
unfolding placed
placed_at k a i c j e = let z : i + c - k ≡ j = omega arith in rw (le-ltb (i + c) k (omega arith), z)

-- place c of row i of the factor reads the places of rows above, p, and the places to the left of it
module _ (k i c : ℕ) (a a' : Matrix) (p p' : ℕ → ℕ → Float) (b : c ≤ k) (same : k ≤ i + c → a i (i + c - k) ≡ a' i (i + c - k)) (up : (r n : ℕ) → r < i → n ≤ k → p r n ≡ p' r n)
    (left : (n : ℕ) → n < c → p i n ≡ p' i n) where
  abbrev l : Matrix
  l r t = p r (t + k - r)

  abbrev l' : Matrix
  l' r t = p' r (t + k - r)

  module _ (j : ℕ) (is : j + k ≡ i + c) where
    beside : (t : ℕ) → i - k ≤ t → t < j → l j t ≡ l' j t
    beside t o q =
        ⊎_elim
        (λ (e : j ≡ i). rw e (left (t + k - i) (omega arith)))
        (λ (u : j < i). up j (t + k - j) u (omega arith))
        (eq-or-lt_of_le (omega arith))

    reduced-ext : a i j ≡ a' i j → reduced k a l i j ≡ reduced k a' l' i j
    unfolding reduced
    reduced-ext e = rw e (less_from_ext (a' i j) _ _ (i - k) j (λ t o q. rw (left (t + k - i) (omega arith), beside t o q, up t (t + k - t) (omega arith) (omega arith))))

    column-ext : a i j ≡ a' i j → entry k a l i j ≡ entry k a' l' i j
    unfolding entry
    column-ext e = rw (reduced-ext e) (cond_cong (ltb j i) _ _ _ (λ u. let t : j < i = ltb-true j i u in rw (up j (j + k - j) t (omega arith))))

  pub entry_ext : placed k (entry k a l) i c ≡ placed k (entry k a' l') i c
  entry_ext = placed_ext k (entry k a l) (entry k a' l') i c (λ g. column-ext (i + c - k) (omega arith) (same g))

-- ---- one more row

pub length-row_to : (k : ℕ) (a : Matrix) (f : List (List Float)) (r n : ℕ) → length (row_to k a f r n) ≡ n
unfolding row_to
length-row_to k a f r zero = refl
length-row_to k a f r (suc n) = length-append (row_to k a f r n) _ ∙ rw (length-row_to k a f r n) (add-one n)

pub line_above : (f : List (List Float)) (p : List Float) (i : ℕ) → i < length f → line (f ++ (p ∷ [])) i ≡ line f i
line_above f p i h = get_or-append f (p ∷ []) [] i h

pub line-here : (f : List (List Float)) (p : List Float) (r : ℕ) → length f ≡ r → line (f ++ (p ∷ [])) r ≡ p
line-here f p r h = get_or_at f p [] [] r h

pub holds_none : (k : ℕ) (s : List Float) → Holds k 0 [] s
holds_none k s = record { shape = record { count = refl; full = λ i h. absurd (omega arith) }; same = λ i j h g. absurd (omega arith) }

pub holds_snoc : {k r : ℕ} {f : List (List Float)} {s : List Float} (p : List Float) → Holds k r f s → length p ≡ k + 1
    → ((j : ℕ) → j ≤ k → flat k s r j ≡ at p j) → Holds k (r + 1) (f ++ (p ∷ [])) s
holds_snoc {k} {r} {f} {s} p h e q =
    let n = h.shape.count in
    record {
      shape = record {
        count = length-append f (p ∷ []) ∙ rw n;
        full = λ i b.
            ⊎_elim
            (λ (c : i ≡ r). rw (c, line-here f p r n) e)
            (λ (c : i < r). rw (line_above f p i (omega arith)) (h.shape.full i c))
            (eq-or-lt_of_le (omega arith));
      };
      same = λ i j b g.
          ⊎_elim
          (λ (c : i ≡ r). rw (c, line-here f p r n) (q j g))
          (λ (c : i < r). rw (line_above f p i (omega arith)) (h.same i j c g))
          (eq-or-lt_of_le (omega arith));
    }

-- a run whose first rows are kept holds them still
pub holds_kept : {k r : ℕ} {f : List (List Float)} {s s' : List Float} → Holds k r f s → ((q : ℕ) → q < r * (k + 1) → at s' q ≡ at s q) → Holds k r f s'
holds_kept {k} {r} {f} {s} {s'} h e = record { shape = h.shape; same = λ i j b g. e (i * (k + 1) + j) (above k r i j b g) ∙ h.same i j b g }

-- nothing stored yet; one more place, at q
pub row_none : {k r : ℕ} {s : List Float} → Factored k r 0 s s
row_none {k} {r} {s} = record { kept = kept_none (r * (k + 1)) 0 s; made = λ j b. absurd (omega arith) }

pub row_more : {k r c : ℕ} {s₀ s : List Float} {x : Float} (q : ℕ) → Factored k r c s₀ s → c ≤ k → q ≡ r * (k + 1) + c → q < length s
    → x ≡ placed k (entry k (of_run k s) (of_run k s)) r c → Factored k r (c + 1) s₀ (set s q x)
row_more {k} {r} {c} {s₀} {s} {x} q w b e fits is =
    let up : (i j : ℕ) → i < r → j ≤ k → flat k s i j ≡ flat k (set s q x) i j = λ i j u g. sym (get_or-set_other s q (i * (k + 1) + j) x nan (ne_of_lt (omega (arith, above k r i j u g)))) in
    let left : (j : ℕ) → j < c → flat k s r j ≡ flat k (set s q x) r j = λ j u. sym (get_or-set_other s q (r * (k + 1) + j) x nan (ne_of_lt (omega arith))) in
    record {
      kept = record {
        size = length-set s q x ∙ w.kept.size;
        below = λ p u. get_or-set_other s q p x nan (ne_of_lt (omega arith)) ∙ w.kept.below p u;
        above = λ p u. get_or-set_other s q p x nan (ne_of_gt (omega arith)) ∙ w.kept.above p (omega arith);
      };
      made = λ j u.
          ⊎_elim
          (λ (z : j ≡ c).
          rw z (ap (at (set s q x)) (sym e) ∙ get_or-set_same s q x nan fits ∙ is
          ∙ entry_ext k r c (of_run k s) (of_run k s₀) (flat k s) (flat k (set s q x)) b (λ g. w.kept.above (r * (k + 1) + (r + c - k + k - r)) (omega arith)) up left))
          (λ (z : j < c).
          sym (left j z) ∙ w.made j z
          ∙ entry_ext k r j (of_run k s₀) (of_run k s₀) (flat k s) (flat k (set s q x)) (omega arith) (λ g. refl) up (λ i h. left i (omega arith)))
          (eq-or-lt_of_le (omega arith));
    }

-- ---- the rows, one after the other: the bridge between places of the run and places of rows

pub at-concat : (k : ℕ) (f : List (List Float)) → ((i : ℕ) → i < length f → length (line f i) ≡ k + 1) → (i j : ℕ) → i < length f → j ≤ k
    → at (concat f) (i * (k + 1) + j) ≡ look f i j
unfolding concat
at-concat k [] h i j b c = absurd (omega arith)
at-concat k (x ∷ f) h zero j b c = rw (zero-mul, zero-add) (get_or-append x (concat f) nan j (omega (arith, h 0 (omega arith))))
at-concat k (x ∷ f) h (suc i) j b c =
    let e : suc i * (k + 1) + j ≡ length x + (i * (k + 1) + j) = omega (arith, suc-mul i (k + 1), h 0 (omega arith)) in
    rw e (get_or-append-add x (concat f) (i * (k + 1) + j) nan ∙ at-concat k f (λ n u. h (suc n) (omega arith)) i j (omega arith) c)

pub length-concat : (k : ℕ) (f : List (List Float)) → ((i : ℕ) → i < length f → length (line f i) ≡ k + 1) → length (concat f) ≡ length f * (k + 1)
unfolding concat
length-concat k [] h = sym (zero-mul (k + 1))
length-concat k (x ∷ f) h =
    length-append x (concat f)
    ∙ omega (arith, h 0 (omega arith), length-concat k f (λ n u. h (suc n) (omega arith)), suc-mul (length f) (k + 1))

module _ (k m : ℕ) (f : List (List Float)) (s : List Float) where
  pub holds_of : Shape k m f → part 0 (m * (k + 1)) s ≡ concat f → Holds k m f s
  holds_of h e = record {
    shape = h;
    same = λ i j b g.
        let q = i * (k + 1) + j in
        sym (at_part 0 (m * (k + 1)) s q q (above k m i j b g) (zero-add q)) ∙ ap (λ (l : List Float). at l q) e
        ∙ at-concat k f (λ n u. h.full n (omega (arith, h.count))) i j (omega (arith, h.count)) g;
  }

  pub of_holds : Holds k m f s → part 0 (m * (k + 1)) s ≡ concat f
  of_holds h =
      let n = h.shape.count in
      let l = length_part 0 (m * (k + 1)) s in
      let full : (i : ℕ) → i < length f → length (line f i) ≡ k + 1 = λ i u. h.shape.full i (omega arith) in
      ext_get_or nan (part 0 (m * (k + 1)) s) (concat f) (l ∙ sym (length-concat k f full ∙ rw n))
      (λ q u.
      let b : q < m * (k + 1) = omega arith in
      let i : q / (k + 1) < m = (div-lt_iff_lt-mul (omega arith)).1 b in
      let j : q % (k + 1) < k + 1 = mod-lt q (omega arith) in
      at_part 0 (m * (k + 1)) s q q b (zero-add q)
      ∙ ap (at s) (sym (div-add-mod' q (k + 1)))
      ∙ h.same (q / (k + 1)) (q % (k + 1)) i (omega arith)
      ∙ sym (at-concat k f full (q / (k + 1)) (q % (k + 1)) (omega arith) (omega arith))
      ∙ ap (at (concat f)) (div-add-mod' q (k + 1)))

-- ---- the rows of a factor

pub shape_snoc : {k r : ℕ} {f : List (List Float)} (p : List Float) → Shape k r f → length p ≡ k + 1 → Shape k (r + 1) (f ++ (p ∷ []))
shape_snoc {k} {r} {f} p h e =
    record {
      count = length-append f (p ∷ []) ∙ rw h.count;
      full = λ i b.
          ⊎_elim
          (λ (c : i ≡ r). rw (c, line-here f p r h.count) e)
          (λ (c : i < r). rw (line_above f p i (omega (arith, h.count))) (h.full i c))
          (eq-or-lt_of_le (omega arith));
    }

pub shape_rows : (k : ℕ) (a : Matrix) (m : ℕ) → Shape k m (rows k a m)
unfolding rows row
shape_rows k a zero = record { count = refl; full = λ i h. absurd (omega arith) }
shape_rows k a (suc m) = rw (← add-one m) (shape_snoc (row_to k a (rows k a m) m (k + 1)) (shape_rows k a m) (length-row_to k a (rows k a m) m (k + 1)))

-- once a pivot is bad
pub unsound : (k : ℕ) (a : Matrix) (n m : ℕ) → sound k a n ≡ false → n ≤ m → sound k a m ≡ false
unfolding sound
unsound k a n zero e h = let z : n ≡ 0 = omega arith in rw z at e
unsound k a n (suc m) e h =
    ⊎_elim
    (λ (c : n ≡ suc m). rw c at e)
    (λ (c : n < suc m). rw (unsound k a n m e (le_of_suc-le-suc c)))
    (eq-or-lt_of_le h)

-- the n places from b on, as a list
pub part_stands : (b n : ℕ) (s : List Float) → Stands b (part b n s) s
part_stands b n s j h = sym (at_part b n s j (b + j) (omega (arith, length_part b n s)) refl)

pub stands_part : (b n : ℕ) (x s : List Float) → length x ≡ n → Stands b x s → part b n s ≡ x
stands_part b n x s e h =
    let l = length_part b n s in
    ext_get_or nan (part b n s) x (l ∙ sym e) (λ i u. at_part b n s i (b + i) (omega arith) refl ∙ h i (omega arith))

-- a part of the n places from p on
sub_part : (p n b l : ℕ) (s : List Float) → p + n ≤ length s → b + l ≤ n → part b l (take n (drop p s)) ≡ part (p + b) l s
sub_part p n b l s room h = let d : p + n - p ≡ n = omega arith in rw d at (part_of_range nan b l p (p + n) s (omega arith) room (omega arith))

-- a system that stands from place p on: its m rows, the matrix that they keep, and its right side
module _ (k p m : ℕ) (s : List Float) (room : p + (m * (k + 1) + m) ≤ length s) where
  pub rows-part : part 0 (m * (k + 1)) (take (m * (k + 1) + m) (drop p s)) ≡ part p (m * (k + 1)) s
  rows-part = let z : p + 0 ≡ p = omega arith in rw z at (sub_part p (m * (k + 1) + m) 0 (m * (k + 1)) s room (omega arith))

  pub keeps_part : {a : Matrix} → Keeps k m a (drop p s) → Keeps k m a (take (m * (k + 1) + m) (drop p s))
  keeps_part h i j l b o = get_or-take (m * (k + 1) + m) (drop p s) (i * (k + 1) + (j + k - i)) nan (omega (arith, above k m i (j + k - i) l (omega arith))) ∙ h i j l b o

  pub side_part : part (m * (k + 1)) m (take (m * (k + 1) + m) (drop p s)) ≡ part (p + m * (k + 1)) m s
  side_part = sub_part p (m * (k + 1) + m) (m * (k + 1)) m s room (omega arith)
