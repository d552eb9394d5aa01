-- Laws of the marks, of the free places, and of the sums over them. Assumes nothing.
use mathlib.Core.Bool.{Bool, true, false, cond}
use mathlib.Core.Logic.{⊎_elim}
use mathlib.Core.List.{List, [], ◌∷◌, ◌++◌}
use mathlib.Core.Path.{◌≡◌, refl, sym, ap, ◌∙◌}
use Prim.Native.Nat.{ℕ, zero, suc, ◌+◌, ◌-◌, ◌≤◌, ◌<◌, min}
use native.Mathlib.Nat.{eq-or-lt_of_le, le_of_suc-le-suc, ne_of_lt, ne_of_gt, min-le_right}
use native.Mathlib.Numerals.{add-one}
use native.Mathlib.Omega.{arith}
use borrow.Author.Tests.{ne_eqb}
use lib.Dec.{eqb}
use lib.ListN.{length, get_or, set, length-set, get_or-append}
use lib.Seq.{get_or_at, get_or-set_same, get_or-set_other}
use lib.Ieee.{Float, lt}
use Rattle.float64.specs.Ops.{◌⊕◌, ◌⊖◌}
use Rattle.std.specs.Int.{from_bool}
use Rattle.vectors.specs.Vec.{at, places_to, KeptOf}
use Rattle.vectors.proofs.Parts.{at_part}
use Rattle.vectors.proofs.Places.{places_count, places_few, places_rising}
use Rattle.dual_point.specs.Places.{point}
use Rattle.active_set.specs.declared.Hold.TheVariants.{Free, Upper, Lower}
use Rattle.active_set.specs.declared.Hold.{Hold}
use Rattle.active_set.specs.ActiveSet.{is_free, hold_at, free_to, compressed, less_held, less_to, compressed_rhs_at}
use Rattle.active_set.specs.Marks.{mark_of, hold_of, Marks}

-- ---- marks

pub hold_mark : (t : Hold) → hold_of (mark_of t) ≡ t
hold_mark Free = refl
hold_mark Upper = refl
hold_mark Lower = refl

free_cond : (a b : Bool) → is_free (cond a Free (cond b Upper Lower)) ≡ a
free_cond true b = refl
free_cond false true = refl
free_cond false false = refl

-- the mark of a free place is 0
free_mark : (x : ℕ) → is_free (hold_of x) ≡ eqb x 0
free_mark x = free_cond (eqb x 0) (eqb x 1)

pub free_place : {A : Type 0} (x : ℕ) (u v : A) → x ≡ 0 → cond (is_free (hold_of x)) u v ≡ u
free_place x u v e = rw e

pub held_place : {A : Type 0} (x : ℕ) (u v : A) → (x ≡ 0 → ⊥) → cond (is_free (hold_of x)) u v ≡ v
held_place {A} x u v e = ap (λ (b : Bool). cond b u v) (free_mark x ∙ ne_eqb x 0 e)

-- how a place is held, read from the run in which the point stands from a on
pub hold_place : (lam : Float) (a m : ℕ) (s : List Float) (i : ℕ) → i < m
    → hold_at lam (point a m s) i ≡ cond (lt (lam ⊖ at s (a + i)) (at s (a + m + i))) Upper (cond (lt (lam ⊕ at s (a + i)) (at s (a + m + m + i))) Lower Free)
unfolding hold_at
hold_place lam a m s i l = rw (at_part a m s i (a + i) l refl, at_part (a + m) m s i (a + m + i) l refl, at_part (a + m + m) m s i (a + m + m + i) l refl)

-- ---- how many free places there are

count_suc : (h : ℕ → Hold) (n : ℕ) → length (free_to h (suc n)) ≡ length (free_to h n) + cond (is_free (h n)) 1 0
unfolding free_to
count_suc h n = places_count (λ i. is_free (h i)) n

-- the number of it: 1 where it is free
pub one_if : (b : Bool) → from_bool b ≡ cond b 1 0
one_if true = refl
one_if false = refl

pub count_le : (h : ℕ → Hold) (n : ℕ) → length (free_to h n) ≤ n
unfolding free_to
count_le h n = places_few (λ i. is_free (h i)) n

pub count_more : (h : ℕ → Hold) (i : ℕ) {q r : ℕ} → q ≡ length (free_to h i) → r ≡ cond (is_free (h i)) 1 0 → q + r ≡ length (free_to h (i + 1))
count_more h i e p = rw (add-one i, count_suc h i, e, p)

count_mono : (h : ℕ → Hold) (i m : ℕ) → i ≤ m → length (free_to h i) ≤ length (free_to h m)
count_mono h i zero l = let e : i ≡ 0 = omega arith in rw e (omega arith)
count_mono h i (suc m) l =
    ⊎_elim
    (λ (e : i ≡ suc m). rw e (omega arith))
    (λ (u : i < suc m). omega (arith, count_mono h i m (le_of_suc-le-suc u), count_suc h m))
    (eq-or-lt_of_le l)

-- a free place comes before the end
pub free_index : (h : ℕ → Hold) (i m : ℕ) → i < m → is_free (h i) ≡ true → length (free_to h i) < length (free_to h m)
free_index h i m l f =
    let e : length (free_to h (suc i)) ≡ length (free_to h i) + 1 = rw f at (count_suc h i) in
    omega (arith, count_mono h (suc i) m (omega arith))

-- each is a place
pub free_lt : (h : ℕ → Hold) (m r : ℕ) → r < length (free_to h m) → get_or (free_to h m) r 0 < m
unfolding free_to
free_lt h m r l = (places_rising (λ i. is_free (h i)) m).below r l

pub free_ext : (h h' : ℕ → Hold) (n : ℕ) → ((j : ℕ) → j < n → h j ≡ h' j) → free_to h n ≡ free_to h' n
unfolding free_to places_to
free_ext h h' zero e = refl
free_ext h h' (suc n) e = rw (free_ext h h' n (λ j l. e j (omega arith)), e n (omega arith))

-- ---- one more mark

pub marks_none : (h : ℕ → Hold) (n : ℕ) (v : List ℕ) → Marks h n 0 v 0
unfolding free_to places_to
marks_none h n v = record { count = refl; free = λ j l. absurd (omega arith); held = λ j l. absurd (omega arith) }

snoc_same : (f : List ℕ) (b : Bool) (i q : ℕ) (v : List ℕ) → q ≡ length f → ((j : ℕ) → j < q → get_or v j 0 ≡ get_or f j 0) → get_or v q 0 ≡ i
    → (j : ℕ) → j < q + cond b 1 0 → get_or v j 0 ≡ get_or (f ++ cond b (i ∷ []) []) j 0
snoc_same f true i q v c s e j l =
    ⊎_elim
    (λ (u : j ≡ q). rw u (e ∙ sym (get_or_at f i [] 0 q (sym c))))
    (λ (u : j < q). s j u ∙ sym (get_or-append f (i ∷ []) 0 j (omega arith)))
    (eq-or-lt_of_le (omega arith))
snoc_same f false i q v c s e j l =
    let u : j < q = omega arith in
    s j u ∙ sym (get_or-append f [] 0 j (omega arith))

module _ {h : ℕ → Hold} {n i q x : ℕ} {v : List ℕ} (w : Marks h n i v q) (b : i < n) (fits : n + i < length v) (is : x ≡ mark_of (h i)) where
  low : q ≤ i
  low = omega (arith, w.count, count_le h i)

  -- the marks with x at the place n + i, and then i at the place q
  abbrev marked : List ℕ
  marked = set (set v (n + i) x) q i

  here : get_or marked q 0 ≡ i
  here = get_or-set_same (set v (n + i) x) q i 0 (omega (arith, low, length-set v (n + i) x))

  there : get_or marked (n + i) 0 ≡ x
  there = get_or-set_other (set v (n + i) x) q (n + i) i 0 (ne_of_gt (omega (arith, low))) ∙ get_or-set_same v (n + i) x 0 fits

  first : (j : ℕ) → j < q → get_or marked j 0 ≡ get_or v j 0
  first j l = get_or-set_other (set v (n + i) x) q j i 0 (ne_of_lt l) ∙ get_or-set_other v (n + i) j x 0 (ne_of_lt (omega (arith, low)))

  before : (j : ℕ) → j < i → get_or marked (n + j) 0 ≡ get_or v (n + j) 0
  before j l = get_or-set_other (set v (n + i) x) q (n + j) i 0 (ne_of_gt (omega (arith, low))) ∙ get_or-set_other v (n + i) (n + j) x 0 (ne_of_lt (omega arith))

  after : (j : ℕ) → n + i < j → get_or marked j 0 ≡ get_or v j 0
  after j l = get_or-set_other (set v (n + i) x) q j i 0 (ne_of_gt (omega (arith, low))) ∙ get_or-set_other v (n + i) j x 0 (ne_of_gt l)

  pub marks_more : (r : ℕ) → r ≡ cond (is_free (h i)) 1 0 → Marks h n (i + 1) (set (set v (n + i) x) q i) (q + r)
  unfolding free_to places_to
  marks_more r e =
      rw (add-one i)
      (record {
        count = rw (w.count, e) (sym (count_suc h i));
        free = λ j l. snoc_same (free_to h i) (is_free (h i)) i q marked w.count (λ t u. first t u ∙ w.free t u) here j (omega (arith, e));
        held = λ j l.
            ⊎_elim
            (λ (u : j ≡ i). rw u (there ∙ is))
            (λ (u : j < i). before j u ∙ w.held j u)
            (eq-or-lt_of_le (le_of_suc-le-suc l));
      })

  pub marks_kept : {v₀ : List ℕ} → KeptOf 0 0 (n + i) v₀ v → KeptOf 0 0 (n + (i + 1)) v₀ (set (set v (n + i) x) q i)
  marks_kept k = record {
    size = length-set (set v (n + i) x) q i ∙ length-set v (n + i) x ∙ k.size;
    below = λ j l. absurd (omega arith);
    above = λ j l. after j (omega arith) ∙ k.above j (omega arith);
  }

-- ---- the system and its right side

-- a row reads its own place of f and places above it
pub band_ext : (k : ℕ) (g : List Float) (f f' : List ℕ) (q : ℕ) → ((j : ℕ) → j < q → get_or f j 0 ≡ get_or f' j 0)
    → (i j : ℕ) → i < q → j ≤ i → compressed k g f i j ≡ compressed k g f' i j
unfolding compressed
band_ext k g f f' q e i j l b = rw (e i l, e j (omega arith))

pub less-more : (lam : Float) (g : List Float) (h : ℕ → Hold) (i lo j : ℕ) (u v r : Float) → v ≡ less_to lam g h i lo u (j - lo) → lo ≤ j
    → r ≡ less_held lam g i j (h j) v → r ≡ less_to lam g h i lo u (j + 1 - lo)
unfolding less_to
less-more lam g h i lo j u v r e l p =
    let s : j + 1 - lo ≡ suc (j - lo) = omega arith in
    let d : lo + (j - lo) ≡ j = omega arith in
    p ∙ rw (s, d, e)

less_ext : (lam : Float) (g : List Float) (h h' : ℕ → Hold) (i lo : ℕ) (u : Float) (n : ℕ) → ((j : ℕ) → j < n → h (lo + j) ≡ h' (lo + j))
    → less_to lam g h i lo u n ≡ less_to lam g h' i lo u n
unfolding less_to
less_ext lam g h h' i lo u zero e = refl
less_ext lam g h h' i lo u (suc n) e = rw (less_ext lam g h h' i lo u n (λ j l. e j (omega arith)), e n (omega arith))

pub right_ext : (k : ℕ) (g dy : List Float) (lam : Float) (h h' : ℕ → Hold) (m i : ℕ) → ((j : ℕ) → j < m → h j ≡ h' j)
    → compressed_rhs_at k g dy lam h m i ≡ compressed_rhs_at k g dy lam h' m i
unfolding compressed_rhs_at
right_ext k g dy lam h h' m i e =
    less_ext lam g h h' i (i - k) (at dy i) (min (i + k + 1) m - (i - k)) (λ j l. e (i - k + j) (omega (arith, min-le_right (i + k + 1) m)))
