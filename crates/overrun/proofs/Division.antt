-- One division of two whole doubles below 2^53 is the double nearest to their fraction, and so for a fraction that is reduced factor by factor. Assumes nothing.
use mathlib.Core.Path.{◌≡◌, refl, sym, ap, ◌∙◌, subst}
use Prim.Native.Nat.{ℕ, ◌*◌, ◌/◌, ◌^◌, ◌≤◌, ◌<◌}
use native.Mathlib.Nat.{mul-one, mul-pos, mul_comm, mul_assoc, mul_left_comm, lt_of_lt_of_le, div-le_self, le-div_iff_mul-le, div-lt_iff_lt-mul}
use native.Mathlib.Omega.{arith}
use mathlib.Core.Bool.{false, true, true≢false, cond}
use lib.Dec.{ltb, lit<, lit≤}
use lib.IntN.{pos}
use lib.Pow.{pow_mono, shl_lt}
use borrow.Author.Tests.{ne_eqb, lt-ltb, le-ltb}
use lib.Ieee.{Float, nan, inf, fin, binary64, round, of_int, of_bits, div, up, down}
use lib.Ieee.Exact.{HasValue, round_exact}
use lib.Ieee.Fits.{down_pos}
use lib.Ieee.Positive.{first_pos}
use lib.Ieee.Scale.{round_same}
use Rattle.overrun.specs.Fractions.{Fraction}
use Rattle.overrun.specs.Inner.{quotient_of}
use Rattle.overrun.proofs.Fractions.{Reduced}

-- a whole number below 2^53 is a double
exact : (a : ℕ) → a < 2 ^ 53 → HasValue (of_int binary64 (pos a)) false a 1
unfolding of_int
exact a h = round_exact binary64 false a 1 a 1074 (lit< tt) h (lt_of_lt_of_le (shl_lt 53 1074 h) (pow_mono {i = 1127} {j = 2098} (lit≤ tt))) (sym (mul-one (a * 2 ^ 1074)))

-- the fractions M / D and N / E are a and b
crossed : (a b M D N E : ℕ) → M * 1 ≡ a * D → N * 1 ≡ b * E → M * E * b ≡ a * (N * D)
crossed a b M D N E p q = rw (sym (mul-one M) ∙ p, sym (mul-one N) ∙ q) (simp (mul_assoc, mul_comm, mul_left_comm))

div_is : (x y : Float) (a b : ℕ) → 0 < b → HasValue x false a 1 → HasValue y false b 1 → div binary64 x y ≡ round binary64 false a b
unfolding div
div_is nan y a b B h k = absurd h
div_is (inf s) y a b B h k = absurd h
div_is (fin s m e) nan a b B h k = absurd k
div_is (fin s m e) (inf t) a b B h k = absurd k
div_is (fin true m e) (fin t n d) a b B h k = absurd (true≢false h.0)
div_is (fin false m e) (fin true n d) a b B h k = absurd (true≢false k.0)
div_is (fin false m e) (fin false n d) a b B h k =
    let N : 0 < n * up d = subst (λ (z : ℕ). 0 < z) (sym k.1 ∙ mul-one (n * up d)) (mul-pos B (down_pos d)) in
    rw (ne_eqb n 0 (λ z. omega (arith, first_pos n (up d) N)))
    (round_same binary64 false (m * up e * down d) (n * up d * down e) a b (mul-pos N (down_pos e)) B
    (crossed a b (m * up e) (down e) (n * up d) (down d) h.1 k.1))

pub one_division : (a b : ℕ) → a < 2 ^ 53 → 0 < b → b < 2 ^ 53 → div binary64 (of_int binary64 (pos a)) (of_int binary64 (pos b)) ≡ round binary64 false a b
one_division a b A B C = div_is (of_int binary64 (pos a)) (of_int binary64 (pos b)) a b B (exact a A) (exact b C)

-- the bits of the NaN that the code names
pub nan_bits : of_bits binary64 0x7ff8_0000_0000_0000 ≡ nan
unfolding of_bits
nan_bits = refl

-- a * b / c, where a is divided by g, b by h and c by both
module _ {a b c g h : ℕ} (r : Reduced a b c g h) where
  pub within : a / g ≤ 9007199254740991 / (b / h) → a / g * (b / h) < 2 ^ 53
  within p = omega (arith, (le-div_iff_mul-le {y = 9007199254740991} r.right).0 p)

  quotient_is : quotient_of (a * b) c ≡ cond (ltb (a / g * (b / h)) (2 ^ 53)) (round binary64 false (a / g * (b / h)) (c / g / h)) nan
  unfolding quotient_of
  quotient_is = ap (λ (f : Fraction). cond (ltb f.upper (2 ^ 53)) (round binary64 false f.upper f.lower) nan) r.terms

  pub over : 9007199254740991 / (b / h) < a / g → of_bits binary64 0x7ff8_0000_0000_0000 ≡ quotient_of (a * b) c
  over p =
      let q : 9007199254740991 < a / g * (b / h) = (div-lt_iff_lt-mul {x = 9007199254740991} r.right).0 p in
      nan_bits ∙ sym (quotient_is ∙ rw (le-ltb (a / g * (b / h)) (2 ^ 53) (omega arith)))

  pub divided : c < 2 ^ 53 → a / g ≤ 9007199254740991 / (b / h) → div binary64 (of_int binary64 (pos (a / g * (b / h)))) (of_int binary64 (pos (c / g / h))) ≡ quotient_of (a * b) c
  divided l p =
      one_division (a / g * (b / h)) (c / g / h) (within p) r.lower (omega (arith, div-le_self (c / g) h, div-le_self c g))
      ∙ sym (quotient_is ∙ rw (lt-ltb (a / g * (b / h)) (2 ^ 53) (within p)))
