-- Numbers of several bytes: two halves make one, one more byte, a body's numbers stand in the input, and how large they get. Assumes nothing.
use mathlib.Core.Path.{◌≡◌, refl, sym, ap, ap₂, ◌∙◌}
use Prim.Native.Nat.{ℕ, zero, suc, ◌+◌, ◌-◌, ◌*◌, ◌^◌, ◌≤◌, ◌<◌}
use native.Mathlib.Omega.{arith, pow_step}
use mathlib.Core.List.{List, [], ◌∷◌, ◌++◌, map, reverse}
use lib.ListN.{length, get_or, take, drop, length-append, length-drop}
use lib.Seq.{drop-cons, drop-drop, take-take, take-add, length-take-le, get_or-drop}
use Rattle.std.proofs.Common.{Bor, add-one}
use Rattle.std.proofs.Math.Nat.{pow-le-pow_right}
use Rattle.std.proofs.lemmas.List.{map-append, reverse-append, reverse-reverse, length-reverse}
use Rattle.framing.specs.Bytes.{little_endian, number_at}

-- a number of a part of the bytes
drop-take : (a n m : ℕ) (l : List ℕ) → a + n ≤ m → take n (drop a (take m l)) ≡ take n (drop a l)
drop-take zero n m l h = take-take n m l (omega arith)
drop-take (suc a) n zero l h = absurd (omega arith)
drop-take (suc a) n (suc m) [] h = refl
drop-take (suc a) n (suc m) (b ∷ l) h = drop-take a n m l (omega arith)

pub number_of_part : (s : List ℕ) (b m a n : ℕ) → a + n ≤ m → number_at a n (take m (drop b s)) ≡ number_at (b + a) n s
number_of_part s b m a n h = ap little_endian (drop-take a n m (drop b s) h ∙ ap (take n) (drop-drop a b s))

pub one_is : (s : List ℕ) (at : ℕ) → at < length s → get_or s at 0 ≡ number_at at 1 s
unfolding little_endian
one_is s at h = rw (drop-cons s at 0 h) (omega arith)

-- bytes, and then more
joined : (x y : List ℕ) → little_endian (x ++ y) ≡ little_endian x + 256 ^ length x * little_endian y
unfolding little_endian
joined [] y = omega arith
joined (b ∷ x) y = rw (pow_step 256 (length x)) (omega (arith, joined x y))

halves : (s : List ℕ) (at m n : ℕ) → at + m ≤ length s → number_at at m s + 256 ^ m * number_at (at + m) n s ≡ number_at at (m + n) s
halves s at m n h =
    let e : length (take m (drop at s)) ≡ m = length-take-le m (drop at s) (omega (arith, length-drop at s)) in
    sym (ap little_endian (take-add m n (drop at s)) ∙ joined (take m (drop at s)) (take n (drop m (drop at s))) ∙ rw (e, drop-drop m at s))

pub two_is : (s : List ℕ) (at : ℕ) → at + 2 ≤ length s → get_or s at 0 + 256 * get_or s (at + 1) 0 ≡ number_at at 2 s
two_is s at h = ap₂ (λ (x y : ℕ). x + 256 * y) (one_is s at (omega arith)) (one_is s (at + 1) (omega arith)) ∙ halves s at 1 1 (omega arith)

pub four_is : (s : List ℕ) (at : ℕ) → at + 4 ≤ length s → number_at at 2 s + 65536 * number_at (at + 2) 2 s ≡ number_at at 4 s
four_is s at h = halves s at 2 2 (omega arith)

pub eight_is : (s : List ℕ) (at : ℕ) → at + 8 ≤ length s → number_at at 4 s + 4294967296 * number_at (at + 4) 4 s ≡ number_at at 8 s
eight_is s at h = halves s at 4 4 (omega arith)

-- bytes, and a lower one before them, which is read after them
pub pushed : (l : List (Bor ℕ)) (b : Bor ℕ) → little_endian (reverse (map (λ x. x.now) (l ++ b ∷ []))) ≡ 256 * little_endian (reverse (map (λ x. x.now) l)) + b.now
unfolding little_endian
pushed l b = rw (map-append (λ x. x.now) l (b ∷ []), reverse-append (map (λ x. x.now) l) (b.now ∷ [])) (omega arith)

pub pushed_below : (l : List (Bor ℕ)) (b : Bor ℕ) (n : ℕ) → n < 256 ^ length l → b.now < 256 → 256 * n + b.now < 256 ^ length (l ++ b ∷ [])
pushed_below l b n h k = rw (length-append l (b ∷ []), add-one, pow_step 256 (length l)) (omega arith)

-- fewer than 8 bytes, and one more
pub pushed_fits : (k n : ℕ) → k < 8 → n < 256 ^ k → 256 * n + 255 < 2 ^ 64
pushed_fits k n h b = let e : 256 ^ k ≤ 256 ^ 7 = pow-le-pow_right {n = 256} (omega arith) {i = k} {j = 7} (omega arith) in omega (arith, e)

-- the bytes of a place, read from the last one back: how many there are, and what they spell
module _ (s : List ℕ) (at n : ℕ) where
  abbrev pub backward : List ℕ
  backward = reverse (take (at + n - at) (drop at s))

  pub length_backward : at + n ≤ length s → length backward ≡ n
  length_backward h = length-reverse (take (at + n - at) (drop at s)) ∙ length-take-le (at + n - at) (drop at s) (omega (arith, length-drop at s)) ∙ omega arith

  pub spells_backward : (l : List (Bor ℕ)) → map (λ x. x.now) l ≡ backward → little_endian (reverse (map (λ x. x.now) l)) ≡ number_at at n s
  spells_backward l h = let e : at + n - at ≡ n = omega arith in ap little_endian (ap reverse h ∙ reverse-reverse _) ∙ ap (λ (k : ℕ). little_endian (take k (drop at s))) e

-- n bytes spell a number below 256^n
below : (n : ℕ) (l : List ℕ) → ((i : ℕ) → get_or l i 0 < 256) → little_endian (take n l) < 256 ^ n
unfolding little_endian
below zero l h = omega arith
below (suc n) [] h = rw (pow_step 256 n) (omega (arith, below n [] h))
below (suc n) (b ∷ l) h = rw (pow_step 256 n) (omega (arith, h 0, below n l (λ i. h (suc i))))

pub number_below : (s : List ℕ) (at n : ℕ) → ((i : ℕ) → get_or s i 0 < 256) → number_at at n s < 256 ^ n
number_below s at n h = below n (drop at s) (λ i. rw (get_or-drop at s i 0) (h (at + i)))
