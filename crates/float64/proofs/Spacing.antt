-- How the doubles are spaced, counted in units of 2 ^ -1074, what `compare` says of two counts, and the count of a known value. Assumes nothing.
use mathlib.Core.Path.{◌≡◌, refl, sym, ap, ◌∙◌, subst}
use mathlib.Core.Logic.{◌⊎◌, inl, inr}
use Prim.Native.Nat.{ℕ, suc, ◌-◌, ◌*◌, ◌/◌, ◌^◌, ◌≤◌, ◌<◌, compare, Ordering}
use native.Mathlib.Nat.{le_trans, le_of_lt, le_of_eq, lt_of_not-le, mul_assoc, mul-le-mul_right, mul-lt-mul_of_pos_right, lt_of_mul-lt-mul_right, mul-div_cancel, pow-succ'}
use native.Mathlib.Decide.{dec_le}
use native.Mathlib.Omega.{arith}
use mathlib.Core.Bool.{Bool, true, not}
use lib.Dec.{T, is_le, compare_is_eq, eqb, leb→le, nleb→lt, eqb→eq, eqb_refl}
use lib.Arith.{lt_of_le-ne}
use lib.Pow.{pow-add, pow_pos, pow_mono}
use lib.Ieee.{Float, nan, inf, fin, down}
use lib.Ieee.Digits.{back}
use lib.Ieee.Exact.{HasValue}
use lib.Ieee.Fits.{down_pos}
use Rattle.float64.specs.Helpers.{is_finite}
use Rattle.float64.specs.Units.{in_units, has_minus}
use Rattle.float64.proofs.Doubles.{Grid}

-- ---- what `compare` says

abbrev pub Cmp : Ordering → ℕ → ℕ → Type 0
Cmp Ordering.lt a b = a < b
Cmp Ordering.eq a b = a ≡ b
Cmp Ordering.gt a b = b < a

pub cmp : (a b : ℕ) → Cmp (compare a b) a b
cmp a b = go (compare a b) (leb→le a b) (nleb→lt a b) (eqb→eq a b) (λ (e : a ≡ b). subst (λ (x : ℕ). T (eqb a x)) e (eqb_refl a))
  where
    go : (o : Ordering) → (T (is_le o) → a ≤ b) → (T (not (is_le o)) → b < a) → (T (compare_is_eq o) → a ≡ b) → (a ≡ b → T (compare_is_eq o)) → Cmp o a b
    go Ordering.lt h k e n = lt_of_le-ne (h tt) n
    go Ordering.eq h k e n = e tt
    go Ordering.gt h k e n = k tt

-- ---- the spacing

-- from 2 ^ 52 * 2 ^ k on the doubles are multiples of 2 ^ k
pub spaced : (z k : ℕ) → Grid z → 2 ^ 52 * 2 ^ k ≤ z → (c : ℕ) × (z ≡ c * 2 ^ k)
spaced z k (m, j, b, e) h = go (dec_le k j)
  where
    go : Dec (k ≤ j) → (c : ℕ) × (z ≡ c * 2 ^ k)
    go (yes g) = (m * 2 ^ (j - k), e ∙ ap (λ (x : ℕ). m * x) (ap (λ (x : ℕ). 2 ^ x) (sym (back j k g)) ∙ pow-add 2 (j - k) k) ∙ sym (mul_assoc m (2 ^ (j - k)) (2 ^ k)))
    go (no f) =
        let p : 2 ^ suc j ≤ 2 ^ k = pow_mono (lt_of_not-le f) in
        let q : m * 2 ^ j < 2 ^ 53 * 2 ^ j = mul-lt-mul_of_pos_right b (pow_pos j) in
        let r : 2 ^ suc j ≡ 2 * 2 ^ j = pow-succ' 2 j in
        absurd (omega arith)

-- so none lies between two neighbouring multiples
pub gap : (q k z : ℕ) → 2 ^ 52 ≤ q → Grid z → (z ≤ q * 2 ^ k) ⊎ (suc q * 2 ^ k ≤ z)
gap q k z l g = go (dec_le z (q * 2 ^ k))
  where
    go : Dec (z ≤ q * 2 ^ k) → (z ≤ q * 2 ^ k) ⊎ (suc q * 2 ^ k ≤ z)
    go (yes h) = inl h
    go (no f) =
        let h : q * 2 ^ k < z = lt_of_not-le f in
        let s = spaced z k g (le_trans (mul-le-mul_right (2 ^ k) l) (le_of_lt h)) in
        inr (le_trans (mul-le-mul_right (2 ^ k) (lt_of_mul-lt-mul_right (2 ^ k) (subst (λ (x : ℕ). q * 2 ^ k < x) s.1 h))) (le_of_eq (sym s.1)))

-- ---- a double whose value is known: it is finite, and has that sign and that count

pub value_finite : (x : Float) (s : Bool) (a c : ℕ) → HasValue x s a c → is_finite x ≡ true
unfolding is_finite
value_finite nan s a c v = absurd v
value_finite (inf t) s a c v = absurd v
value_finite (fin t m e) s a c v = refl

pub value_sign : (x : Float) (s : Bool) (a c : ℕ) → HasValue x s a c → has_minus x ≡ s
value_sign nan s a c v = absurd v
value_sign (inf t) s a c v = absurd v
value_sign (fin t m e) s a c v = v.0

pub value_units : (x : Float) (s : Bool) (n : ℕ) → HasValue x s n (2 ^ 1074) → in_units x ≡ n
value_units nan s n v = absurd v
value_units (inf t) s n v = absurd v
value_units (fin t m e) s n v = ap (λ (y : ℕ). y / down e) v.1 ∙ mul-div_cancel n (down_pos e)
