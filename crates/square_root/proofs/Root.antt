-- Whole-number roots, and the double that `nearest_root` names. Assumes nothing.
use mathlib.Core.Path.{◌≡◌, refl, sym, ap, ap₂, ◌∙◌}
use Prim.Native.Nat.{ℕ, zero, suc, ◌+◌, ◌-◌, ◌*◌, ◌/◌, ◌^◌, ◌≤◌, ◌<◌, compare, Ordering}
use native.Mathlib.Nat.{le_refl, le_trans, le_of_eq, le_antisymm, le_of_suc-le-suc, lt_of_lt_of_le, lt_of_le_of_lt, lt_of_not-le, not-le_of_lt, mul-le-mul, mul-le-mul_right, mul-pos, mul-lt-mul_of_pos_right, mul-div_cancel}
use native.Mathlib.Omega.{arith}
use mathlib.Core.Bool.{Bool, true, false, not, cond}
use lib.Dec.{T, leb, leb→le, nleb→lt}
use lib.Pow.{pow-add, pow_pos, pow_mono}
use lib.Ieee.{binary64, size, nearest, units}
use lib.Ieee.Digits.{size-lt, size-le}
use Rattle.square_root.specs.Sqrt.{step, isqrt_of, isqrt, nearest_root}
use Rattle.square_root.specs.Parts.{rounded_root}
use Rattle.float64.proofs.Spacing.{Cmp, cmp}

-- ---- what `compare` says

pub cmp_is : (o p : Ordering) (a b : ℕ) → Cmp o a b → Cmp p a b → o ≡ p
cmp_is Ordering.lt Ordering.lt a b h k = refl
cmp_is Ordering.lt Ordering.eq a b h k = absurd (omega arith)
cmp_is Ordering.lt Ordering.gt a b h k = absurd (omega arith)
cmp_is Ordering.eq Ordering.lt a b h k = absurd (omega arith)
cmp_is Ordering.eq Ordering.eq a b h k = refl
cmp_is Ordering.eq Ordering.gt a b h k = absurd (omega arith)
cmp_is Ordering.gt Ordering.lt a b h k = absurd (omega arith)
cmp_is Ordering.gt Ordering.eq a b h k = absurd (omega arith)
cmp_is Ordering.gt Ordering.gt a b h k = refl

cmp_scale : (o : Ordering) (a b c : ℕ) → 0 < c → Cmp o a b → Cmp o (a * c) (b * c)
cmp_scale Ordering.lt a b c C h = mul-lt-mul_of_pos_right h C
cmp_scale Ordering.eq a b c C h = ap (λ (x : ℕ). x * c) h
cmp_scale Ordering.gt a b c C h = mul-lt-mul_of_pos_right h C

compare_scale : (a b c : ℕ) → 0 < c → compare (a * c) (b * c) ≡ compare a b
compare_scale a b c C = cmp_is (compare (a * c) (b * c)) (compare a b) (a * c) (b * c) (cmp (a * c) (b * c)) (cmp_scale (compare a b) a b c C (cmp a b))

-- ---- whole_number roots

-- r is the whole part of n's root
abbrev pub Root : ℕ → ℕ → Type 0
Root n r = (r * r ≤ n) × (n < suc r * suc r)

pub sq_back : (a b : ℕ) → a * a < b * b → a < b
sq_back a b h = lt_of_not-le (λ (g : b ≤ a). not-le_of_lt h (mul-le-mul g g))

step_root : (n r : ℕ) → Root (n / 4) r → Root n (step n (2 * r))
step_root n r h = go (leb (suc (2 * r) * suc (2 * r)) n) (leb→le (suc (2 * r) * suc (2 * r)) n) (nleb→lt (suc (2 * r) * suc (2 * r)) n)
  where
    go : (b : Bool) → (T b → suc (2 * r) * suc (2 * r) ≤ n) → (T (not b) → n < suc (2 * r) * suc (2 * r)) → Root n (cond b (suc (2 * r)) (2 * r))
    go true p q = (p tt, omega arith)
    go false p q = (omega arith, q tt)

isqrt_of_root : (d n : ℕ) → n < 4 ^ d → Root n (isqrt_of d n)
unfolding isqrt_of
isqrt_of_root zero n h = (omega arith, omega arith)
isqrt_of_root (suc d) n h = step_root n (isqrt_of d (n / 4)) (isqrt_of_root d (n / 4) (omega arith))

two_four : (k : ℕ) → 2 ^ k ≤ 4 ^ k
two_four zero = le_refl 1
two_four (suc k) = omega (arith, two_four k)

pub isqrt_root : (n : ℕ) → Root n (isqrt n)
unfolding isqrt
isqrt_root n = isqrt_of_root (size n) n (lt_of_lt_of_le (size-lt n) (two_four (size n)))

root_le : (n q r : ℕ) → Root n q → Root n r → q ≤ r
root_le n q r h k = le_of_suc-le-suc (sq_back q (suc r) (lt_of_le_of_lt h.0 k.1))

pub isqrt_is : (n q : ℕ) → Root n q → isqrt n ≡ q
isqrt_is n q h = le_antisymm (root_le n (isqrt n) q (isqrt_root n) h) (root_le n q (isqrt n) h (isqrt_root n))

-- ---- the root of a number with 2 * k zeros after it

module _ (n k q : ℕ) (h : Root n q) (l : 2 ^ 52 ≤ q) (g : q < 2 ^ 53) where
  cut : n * (2 ^ k * 2 ^ k) / (2 ^ k * 2 ^ k) ≡ n
  cut = mul-div_cancel n (mul-pos (pow_pos k) (pow_pos k))

  power : (c : ℕ) → 2 ^ (c + (k + k)) ≡ 2 ^ c * (2 ^ k * 2 ^ k)
  power c = pow-add 2 c (k + k) ∙ ap (λ (x : ℕ). 2 ^ c * x) (pow-add 2 k k)

  digits : (size (n * (2 ^ k * 2 ^ k)) + 1) / 2 - 53 ≡ k
  digits =
      let z = n * (2 ^ k * 2 ^ k) in
      let above : 2 ^ (104 + (k + k)) ≤ z = le_trans (le_of_eq (power 104)) (mul-le-mul_right (2 ^ k * 2 ^ k) (le_trans (mul-le-mul l l) h.0)) in
      let below : z < 2 ^ (106 + (k + k)) = lt_of_lt_of_le (mul-lt-mul_of_pos_right (lt_of_lt_of_le h.1 (mul-le-mul g g)) (mul-pos (pow_pos k) (pow_pos k))) (le_of_eq (sym (power 106))) in
      let fits : size z ≤ 106 + (k + k) = size-le z (106 + (k + k)) below in
      let full : 104 + (k + k) < size z = lt_of_not-le (λ (y : size z ≤ 104 + (k + k)). not-le_of_lt (size-lt z) (le_trans (pow_mono y) above)) in
      omega arith

  pub nearest_root-at : nearest_root (n * (2 ^ k * 2 ^ k)) ≡ units binary64 false (rounded_root n) k
  unfolding nearest_root rounded_root
  nearest_root-at =
      rw digits
      (rw cut
      (rw (isqrt_is n q h)
      (ap (λ (o : Ordering). units binary64 false (nearest q o) k) (same_test))))
    where
      same_test : compare (4 * (n * (2 ^ k * 2 ^ k))) ((2 * q + 1) * 2 ^ k * ((2 * q + 1) * 2 ^ k)) ≡ compare (4 * n) ((2 * q + 1) * (2 * q + 1))
      same_test =
          let a : 4 * (n * (2 ^ k * 2 ^ k)) ≡ 4 * n * (2 ^ k * 2 ^ k) = omega arith in
          let b : (2 * q + 1) * 2 ^ k * ((2 * q + 1) * 2 ^ k) ≡ (2 * q + 1) * (2 * q + 1) * (2 ^ k * 2 ^ k) = omega arith in
          ap₂ compare a b ∙ compare_scale (4 * n) ((2 * q + 1) * (2 * q + 1)) (2 ^ k * 2 ^ k) (mul-pos (pow_pos k) (pow_pos k))
