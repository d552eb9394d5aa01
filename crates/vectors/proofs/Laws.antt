-- Laws of vectors given by their places, and of loops that write them. Assumes nothing.
use mathlib.Core.Path.{◌≡◌, refl, sym, ap, ap₂, ◌∙◌}
use mathlib.Core.Logic.{⊎_elim}
use mathlib.Core.Bool.{Bool, true, false, cond}
use mathlib.Core.List.{List, [], ◌∷◌, ◌++◌}
use Prim.Native.Nat.{ℕ, zero, suc, ◌+◌, ◌-◌, ◌≤◌, ◌<◌}
use native.Mathlib.Nat.{le_of_suc-le-suc, eq-or-lt_of_le, ne_of_lt, ne_of_gt}
use native.Mathlib.Numerals.{add-one}
use native.Mathlib.Omega.{arith}
use lib.ListN.{length, get_or, set, take, drop, length-append, length-drop, length-set, take-append-drop, get_or-append}
use lib.Seq.{get_or_at, get_or-set_same, get_or-set_other, get_or-take, get_or-drop, length-take-le, ext_get_or}
use lib.Ieee.{Float, nan}
use Rattle.vectors.specs.Vec.{at, list, put, KeptOf}
use Rattle.vectors.specs.Parts.{WrittenOf}

pub length-list : {A : Type 0} (n : ℕ) (f : ℕ → A) → length (list n f) ≡ n
unfolding list
length-list zero f = refl
length-list (suc n) f = length-append (list n f) (f n ∷ []) ∙ rw (length-list n f) (add-one n)

pub get_d_list : {A : Type 0} (z : A) (n : ℕ) (f : ℕ → A) (j : ℕ) → j < n → get_or (list n f) j z ≡ f j
unfolding list
get_d_list z zero f j h = absurd (omega arith)
get_d_list z (suc n) f j h =
    ⊎_elim
    (λ (e : j ≡ n). rw e (get_or_at (list n f) (f n) [] z n (length-list n f)))
    (λ (l : j < n). get_or-append (list n f) (f n ∷ []) z j (omega (arith, length-list n f)) ∙ get_d_list z n f j l)
    (eq-or-lt_of_le (le_of_suc-le-suc h))

pub at-list : (n : ℕ) (f : ℕ → Float) (j : ℕ) → j < n → at (list n f) j ≡ f j
at-list n f j h = get_d_list nan n f j h

-- two vectors are the same where their places are
pub list_ext : {A : Type 0} (n : ℕ) (f g : ℕ → A) → ((j : ℕ) → j < n → f j ≡ g j) → list n f ≡ list n g
unfolding list
list_ext zero f g h = refl
list_ext (suc n) f g h = rw (list_ext n f g (λ j l. h j (omega arith)), h n (omega arith))

-- a vector is the list of its places
pub list_is : {A : Type 0} (z : A) (v : List A) → v ≡ list (length v) (λ i. get_or v i z)
list_is z v =
    ext_get_or z v (list (length v) (λ i. get_or v i z)) (sym (length-list (length v) (λ i. get_or v i z)))
    (λ i h. sym (get_d_list z (length v) (λ i. get_or v i z) i h))

module _ {A : Type 0} {z : A} where
  -- nothing written yet
  pub none : {i : ℕ} {f : ℕ → A} {v : List A} → WrittenOf z i i f v v
  none = record { size = refl; inside = λ j a b. absurd (omega arith); below = λ j a. refl; above = λ j a. refl }

  -- one more place, upwards
  pub up : {lo hi : ℕ} {f : ℕ → A} {v₀ v : List A} {x : A}
      → WrittenOf z lo hi f v₀ v → lo ≤ hi → hi < length v → x ≡ f hi → WrittenOf z lo (hi + 1) f v₀ (set v hi x)
  up {lo} {hi} {f} {v₀} {v} {x} w o h e =
      record {
        size = length-set v hi x ∙ w.size;
        inside = λ j a b.
            ⊎_elim
            (λ (q : j ≡ hi). rw q (get_or-set_same v hi x z h ∙ e))
            (λ (l : j < hi). get_or-set_other v hi j x z (ne_of_lt l) ∙ w.inside j a l)
            (eq-or-lt_of_le (omega arith));
        below = λ j a. get_or-set_other v hi j x z (ne_of_lt (omega arith)) ∙ w.below j a;
        above = λ j a. get_or-set_other v hi j x z (ne_of_gt (omega arith)) ∙ w.above j (omega arith);
      }

  -- one more place, downwards
  pub down : {i lo hi : ℕ} {f : ℕ → A} {v₀ v : List A} {x : A}
      → WrittenOf z i hi f v₀ v → i ≡ lo + 1 → lo < hi → lo < length v → x ≡ f lo → WrittenOf z lo hi f v₀ (set v lo x)
  down {i} {lo} {hi} {f} {v₀} {v} {x} w s o h e =
      record {
        size = length-set v lo x ∙ w.size;
        inside = λ j a b.
            ⊎_elim
            (λ (q : lo ≡ j). rw (← q) (get_or-set_same v lo x z h ∙ e))
            (λ (l : lo < j). get_or-set_other v lo j x z (ne_of_gt l) ∙ w.inside j (omega arith) b)
            (eq-or-lt_of_le a);
        below = λ j a. get_or-set_other v lo j x z (ne_of_lt a) ∙ w.below j (omega arith);
        above = λ j a. get_or-set_other v lo j x z (ne_of_gt (omega arith)) ∙ w.above j a;
      }

  -- what is written from place 0 on, as a list
  pub front : {n : ℕ} {f : ℕ → A} {v₀ v : List A} → WrittenOf z 0 n f v₀ v → n ≤ length v → take n v ≡ list n f
  front {n} {f} {v₀} {v} w h =
      ext_get_or z (take n v) (list n f) (length-take-le n v h ∙ sym (length-list n f))
      (λ i l. let m : i < n = omega (arith, length-take-le n v h) in get_or-take n v i z m ∙ w.inside i (omega arith) m ∙ sym (get_d_list z n f i m))

  -- what is left alone
  pub written_kept : {lo n : ℕ} {f : ℕ → A} {s₀ s : List A} → WrittenOf z lo (lo + n) f s₀ s → KeptOf z lo n s₀ s
  written_kept w = record { size = w.size; below = w.below; above = w.above }

  pub kept_none : (a n : ℕ) (s : List A) → KeptOf z a n s s
  kept_none a n s = record { size = refl; below = λ j h. refl; above = λ j h. refl }

  -- one change after another, both within the n places from b on
  pub kept_then : {a n a' n' : ℕ} {s₀ s s' : List A} (b k : ℕ) → KeptOf z a n s₀ s → KeptOf z a' n' s s' → b ≤ a → b ≤ a' → a + n ≤ b + k → a' + n' ≤ b + k → KeptOf z b k s₀ s'
  kept_then b k v w p q x y = record {
    size = w.size ∙ v.size;
    below = λ j h. w.below j (omega arith) ∙ v.below j (omega arith);
    above = λ j h. w.above j (omega arith) ∙ v.above j (omega arith);
  }

-- a loop that stores f 0, f 1, .. from place lo on: one more
pub store_more : {A : Type 0} {z : A} (lo i : ℕ) (f : ℕ → A) (s₀ s : List A) (x : A) → WrittenOf z lo (lo + i) (λ j. f (j - lo)) s₀ s → lo + i < length s → x ≡ f i
    → WrittenOf z lo (lo + (i + 1)) (λ j. f (j - lo)) s₀ (set s (lo + i) x)
store_more lo i f s₀ s x w h e =
    let q : lo + (i + 1) ≡ lo + i + 1 = omega arith in
    let d : lo + i - lo ≡ i = omega arith in
    rw q (up w (omega arith) h (e ∙ rw d))

-- a case that is not taken may differ
pub cond_cong : {A : Type 0} (b : Bool) (x y t : A) → (b ≡ true → x ≡ y) → cond b x t ≡ cond b y t
cond_cong true x y t h = h refl
cond_cong false x y t h = refl

-- a loop that wrote t from place 0 on
pub written-put : {A : Type 0} {z : A} {n : ℕ} {f : ℕ → A} {v₀ v : List A} (t : List A) → WrittenOf z 0 n f v₀ v
    → length t ≡ n → n ≤ length v₀ → ((i : ℕ) → i < n → f i ≡ get_or t i z) → v ≡ put v₀ 0 t
written-put {A} {z} {n} {f} {v₀} {v} t w e h q =
    let size = w.size in
    let a : take n v ≡ t = front w (omega arith) ∙ list_ext n f (λ i. get_or t i z) q ∙ sym (rw e at (list_is z t)) in
    let b : drop n v ≡ drop n v₀ =
    ext_get_or z (drop n v) (drop n v₀) (omega (arith, length-drop n v, length-drop n v₀))
    (λ i l. get_or-drop n v i z ∙ w.above (n + i) (omega arith) ∙ sym (get_or-drop n v₀ i z)) in
    let r : n ≡ 0 + length t = omega arith in
    sym (take-append-drop n v) ∙ ap₂ (λ (x y : List A). x ++ y) a b ∙ ap (λ (p : ℕ). t ++ drop p v₀) r
