-- Laws of a part of a run, and of a run with a part put back. Assumes nothing.
use mathlib.Core.Path.{◌≡◌, refl, sym, ap, ◌∙◌}
use mathlib.Core.Logic.{◌⊎◌, inl, inr, ⊎_elim}
use mathlib.Core.List.{List, ◌++◌}
use Prim.Native.Nat.{ℕ, zero, ◌+◌, ◌-◌, ◌≤◌, ◌<◌}
use native.Mathlib.Nat.{zero-add, eq-zero-or-pos}
use native.Mathlib.Omega.{arith}
use lib.ListN.{length, get_or, take, drop, length-append, length-drop}
use lib.Seq.{ext_get_or, take_at, drop_at, length-take-le, get_or-drop, get_or-take}
use lib.Ieee.{Float, nan}
use Rattle.vectors.specs.Vec.{at, list, KeptOf}
use Rattle.vectors.specs.Parts.{Kept, part_of, part, WrittenOf}
use Rattle.vectors.proofs.Laws.{length-list, get_d_list, list_ext}

module _ {A : Type 0} (z : A) where
  pub length-part_of : (a n : ℕ) (s : List A) → length (part_of z a n s) ≡ n
  unfolding part_of
  length-part_of a n s = length-list n (λ i. get_or s (a + i) z)

  -- place i of a part is place q of the run
  pub get_d_part_of : (a n : ℕ) (s : List A) (i q : ℕ) → i < n → a + i ≡ q → get_or (part_of z a n s) i z ≡ get_or s q z
  unfolding part_of
  get_d_part_of a n s i q h e = get_d_list z n (λ i. get_or s (a + i) z) i h ∙ ap (λ (p : ℕ). get_or s p z) e

  pub part_of_ext : (a b n : ℕ) (s t : List A) → ((j : ℕ) → j < n → get_or s (a + j) z ≡ get_or t (b + j) z) → part_of z a n s ≡ part_of z b n t
  unfolding part_of
  part_of_ext a b n s t h = list_ext n (λ i. get_or s (a + i) z) (λ i. get_or t (b + i) z) h

  -- the part that a slice's range is
  pub first_part_of : (n : ℕ) (s : List A) → n ≤ length s → take n s ≡ part_of z 0 n s
  first_part_of n s h =
      ext_get_or z (take n s) (part_of z 0 n s) (length-take-le n s h ∙ sym (length-part_of 0 n s))
      (λ i l. let m : i < n = omega (arith, length-take-le n s h) in get_or-take n s i z m ∙ sym (get_d_part_of 0 n s i i m (zero-add i)))

  pub range_part_of : (a e n : ℕ) (s : List A) → e ≡ a + n → e ≤ length s → take (e - a) (drop a s) ≡ part_of z a n s
  range_part_of a e n s q h =
      let d : e - a ≡ n = omega arith in
      let f : length (take n (drop a s)) ≡ n = length-take-le n (drop a s) (omega (arith, length-drop a s)) in
      rw d
      (ext_get_or z (take n (drop a s)) (part_of z a n s) (f ∙ sym (length-part_of a n s))
      (λ i l. let m : i < n = omega (arith, f) in get_or-take n (drop a s) i z m ∙ get_or-drop a s i z ∙ sym (get_d_part_of a n s i (a + i) m refl)))

  -- a part of a range of the run
  pub part_of_range : (a m c e : ℕ) (s : List A) → c ≤ e → e ≤ length s → a + m ≤ e - c → part_of z a m (take (e - c) (drop c s)) ≡ part_of z (c + a) m s
  part_of_range a m c e s o h f =
      part_of_ext a (c + a) m (take (e - c) (drop c s)) s
      (λ j l. let q : c + (a + j) ≡ c + a + j = omega arith in get_or-take (e - c) (drop c s) (a + j) z (omega arith) ∙ get_or-drop c s (a + j) z ∙ ap (λ (p : ℕ). get_or s p z) q)

  -- what a loop stored from place lo on
  pub store_done : (lo n : ℕ) (f : ℕ → A) (s₀ s : List A) → WrittenOf z lo (lo + n) (λ j. f (j - lo)) s₀ s → part_of z lo n s ≡ list n f
  unfolding part_of
  store_done lo n f s₀ s w =
      list_ext n (λ i. get_or s (lo + i) z) f (λ j l. let d : lo + j - lo ≡ j = omega arith in w.inside (lo + j) (omega arith) (omega arith) ∙ rw d)

  -- a part beside what changed
  pub part_below : {a n : ℕ} {s₀ s : List A} (e m : ℕ) → KeptOf z a n s₀ s → e + m ≤ a → part_of z e m s ≡ part_of z e m s₀
  part_below {s₀ = s₀} {s = s} e m w h = part_of_ext e e m s s₀ (λ j l. w.below (e + j) (omega arith))

  pub part_above : {a n : ℕ} {s₀ s : List A} (e m : ℕ) → KeptOf z a n s₀ s → a + n ≤ e → part_of z e m s ≡ part_of z e m s₀
  part_above {s₀ = s₀} {s = s} e m w h = part_of_ext e e m s s₀ (λ j l. w.above (e + j) (omega arith))

pub length_part : (a n : ℕ) (s : List Float) → length (part a n s) ≡ n
length_part a n s = length-part_of nan a n s

pub at_part : (a n : ℕ) (s : List Float) (i q : ℕ) → i < n → a + i ≡ q → at (part a n s) i ≡ at s q
at_part a n s i q h e = get_d_part_of nan a n s i q h e

pub first_part : (n : ℕ) (s : List Float) → n ≤ length s → take n s ≡ part 0 n s
first_part n s h = first_part_of nan n s h

pub range_part : (a e n : ℕ) (s : List Float) → e ≡ a + n → e ≤ length s → take (e - a) (drop a s) ≡ part a n s
range_part a e n s q h = range_part_of nan a e n s q h

-- ---- a call on the part of a run from a on, n places: the run that it leaves, where x is what it left in the part

abbrev pub put_back : {A : Type 0} → ℕ → ℕ → List A → List A → List A
put_back a n s x = take a s ++ (x ++ drop n (drop a s))

module _ {A : Type 0} (a n : ℕ) (s x : List A) (fits : a + n ≤ length s) (e : length x ≡ n) where
  head : length (take a s) ≡ a
  head = length-take-le a s (omega arith)

  pub mid_put : take n (drop a (put_back a n s x)) ≡ x
  mid_put = ap (take n) (drop_at (take a s) (x ++ drop n (drop a s)) a head) ∙ take_at x (drop n (drop a s)) n e

  pub rest_put : drop n (drop a (put_back a n s x)) ≡ drop n (drop a s)
  rest_put = ap (drop n) (drop_at (take a s) (x ++ drop n (drop a s)) a head) ∙ drop_at x (drop n (drop a s)) n e

  pub first_put : take a (put_back a n s x) ≡ take a s
  first_put = take_at (take a s) (x ++ drop n (drop a s)) a head

  pub length-put : length (put_back a n s x) ≡ length s
  length-put =
      length-append (take a s) (x ++ drop n (drop a s))
      ∙ omega (arith, head, e, length-append x (drop n (drop a s)), length-drop n (drop a s), length-drop a s)

  pub get_d_put : (z : A) (j : ℕ) → j < n → get_or x j z ≡ get_or (put_back a n s x) (a + j) z
  get_d_put z j h = sym (ap (λ (v : List A). get_or v j z) mid_put) ∙ get_or-take n (drop a (put_back a n s x)) j z h ∙ get_or-drop a (put_back a n s x) j z

  pub kept_put : (z : A) → KeptOf z a n s (put_back a n s x)
  kept_put z = record {
    size = length-put;
    below = λ j h. sym (get_or-take a (put_back a n s x) j z h) ∙ ap (λ (v : List A). get_or v j z) first_put ∙ get_or-take a s j z h;
    above = λ q h. let i = q - (a + n) in let r : a + (n + i) ≡ q = omega arith in
        sym (get_or-drop n (drop a (put_back a n s x)) i z ∙ get_or-drop a (put_back a n s x) (n + i) z ∙ ap (λ (p : ℕ). get_or (put_back a n s x) p z) r)
        ∙ ap (λ (v : List A). get_or v i z) rest_put ∙ get_or-drop n (drop a s) i z ∙ get_or-drop a s (n + i) z ∙ ap (λ (p : ℕ). get_or s p z) r;
  }

  -- a part of the part
  pub part-put : (z : A) (b m : ℕ) → b + m ≤ n → part_of z (a + b) m (put_back a n s x) ≡ part_of z b m x
  part-put z b m h =
      part_of_ext z (a + b) b m (put_back a n s x) x
      (λ j l. let q : a + (b + j) ≡ a + b + j = omega arith in ap (λ (p : ℕ). get_or (put_back a n s x) p z) (sym q) ∙ sym (get_d_put z (b + j) (omega arith)))

-- ---- the m places of a run from n on

pub mid_is : (n m : ℕ) (s : List Float) → n + m ≤ length s → take m (drop n s) ≡ part n m s
mid_is n m s h = let d : n + m - n ≡ m = omega arith in rw d at (range_part n (n + m) m s refl h)

-- ---- what a call on a part leaves of the run

pub split : (a b : ℕ) → (a < b) ⊎ (b ≤ a)
split a b = ⊎_elim (λ (e : b - a ≡ zero). inr (omega arith)) (λ (h : zero < b - a). inl (omega arith)) (eq-zero-or-pos (b - a))

-- a part of the run that changed within it
pub kept_within : (a n b l : ℕ) (s x : List Float) → a + n ≤ length s → length x ≡ n → Kept b l (take n (drop a s)) x → Kept (a + b) l s (put_back a n s x)
kept_within a n b l s x f e w = record {
  size = (kept_put a n s x f e nan).size;
  below = λ j h. ⊎_elim
      (λ (o : j < a). (kept_put a n s x f e nan).below j o)
      (λ (o : a ≤ j). let q : a + (j - a) ≡ j = omega arith in
      ⊎_elim
      (λ (u : j - a < n). within j (j - a) q u (w.below (j - a) (omega arith)))
      (λ (u : n ≤ j - a). (kept_put a n s x f e nan).above j (omega arith))
      (split (j - a) n))
      (split j a);
  above = λ j h. let q : a + (j - a) ≡ j = omega arith in
      ⊎_elim
      (λ (u : j - a < n). within j (j - a) q u (w.above (j - a) (omega arith)))
      (λ (u : n ≤ j - a). (kept_put a n s x f e nan).above j (omega arith))
      (split (j - a) n);
}
  where
    within : (j i : ℕ) → a + i ≡ j → i < n → at x i ≡ at (take n (drop a s)) i → at (put_back a n s x) j ≡ at s j
    within j i q u o =
        ap (at (put_back a n s x)) (sym q) ∙ sym (get_d_put a n s x f e nan i u) ∙ o ∙ get_or-take n (drop a s) i nan u ∙ get_or-drop a s i nan ∙ ap (at s) q

-- what a call on the l places from a on leaves, within the n places from a on
pub kept_part : (a l n : ℕ) (s x : List Float) → a + l ≤ length s → length x ≡ l → l ≤ n → Kept a n s (put_back a l s x)
kept_part a l n s x fits e h =
    let k = kept_put a l s x fits e nan in
    record { size = k.size; below = k.below; above = λ j u. k.above j (omega arith) }

pub part-size : (a l : ℕ) (s x : List Float) → a + l ≤ length s → length x ≡ length (take l (drop a s)) → length x ≡ l
part-size a l s x fits e = e ∙ length-take-le l (drop a s) (omega (arith, length-drop a s))

-- a run of which all places from q on stayed
pub kept_drop : {A : Type 0} (z : A) (q : ℕ) (s₀ s : List A) → length s ≡ length s₀ → drop q s ≡ drop q s₀ → KeptOf z 0 q s₀ s
kept_drop {A} z q s₀ s n e = record {
  size = n;
  below = λ j h. absurd (omega arith);
  above = λ j h.
      let r : q + (j - q) ≡ j = omega arith in
      ap (λ (p : ℕ). get_or s p z) (sym r) ∙ sym (get_or-drop q s (j - q) z) ∙ ap (λ (v : List A). get_or v (j - q) z) e ∙ get_or-drop q s₀ (j - q) z ∙ ap (λ (p : ℕ). get_or s₀ p z) r;
}
