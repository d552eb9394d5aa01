-- The digits that `io` writes are those of `decimal`. Assumes nothing.
use mathlib.Core.Path.{◌≡◌, refl, ap, ◌∙◌}
use mathlib.Core.Bool.{Bool, true, false, cond}
use mathlib.Core.List.{List, [], ◌∷◌, ◌++◌}
use Prim.Native.Nat.{ℕ, zero, suc, ◌-◌, ◌*◌, ◌/◌, ◌%◌, ◌^◌, ◌≤◌, ◌<◌}
use native.Mathlib.Omega.{arith, pow_step}
use native.Mathlib.Nat.{mod-eq_of_lt, pow-le-pow_right}
use lib.Dec.{ltb, lit<}
use borrow.Author.Tests.{ltb-true, ltb-false}
use Rattle.io.specs.Digits.{hex_digit_ascii, last_digits, IsDigitCount}
use Rattle.fields.specs.Fields.{decimal_in}

-- the digits of a number below 10
one : (n r : ℕ) → n < 10 → IsDigitCount 10 1 n (suc r) → last_digits 10 (suc r) n ≡ hex_digit_ascii n ∷ []
one n zero h f = ap (λ (d : ℕ). hex_digit_ascii d ∷ []) (mod-eq_of_lt h)
one n (suc r) h f =
    let m : 10 ^ (suc (suc r) - 1) ≤ n = f.2 (omega arith) in
    let p : 10 ^ 1 ≤ 10 ^ (suc (suc r) - 1) = pow-le-pow_right (lit< tt) {i = 1} {j = suc (suc r) - 1} (omega arith) in
    absurd (omega arith)

-- with its last digit off
off : (n r : ℕ) → 10 ≤ n → IsDigitCount 10 1 n (suc r) → IsDigitCount 10 1 (n / 10) r
off n zero h f = absurd (omega (arith, f.1))
off n (suc r) h f = (
  omega arith,
  omega (arith, f.1, pow_step 10 (suc r)),
  λ k. let m : 10 ^ (suc (suc r) - 1) ≤ n = f.2 (omega arith) in
      let e : suc (suc r) - 1 ≡ suc (suc r - 1) = omega arith in
      let p : 10 ^ (suc (suc r) - 1) ≡ 10 * 10 ^ (suc r - 1) = ap (λ (j : ℕ). 10 ^ j) e ∙ pow_step 10 (suc r - 1) in
      omega arith,
)

-- by whether it is below 10, given the rest
choose : (n r : ℕ) (l : List ℕ) (t : Bool) → ltb n 10 ≡ t → IsDigitCount 10 1 n (suc r) → (10 ≤ n → last_digits 10 r (n / 10) ≡ l)
    → last_digits 10 (suc r) n ≡ cond t (hex_digit_ascii n ∷ []) (l ++ (hex_digit_ascii (n % 10) ∷ []))
choose n r l true e f g = one n r (ltb-true n 10 e) f
choose n r l false e f g = ap (λ (k : List ℕ). k ++ (hex_digit_ascii (n % 10) ∷ [])) (g (ltb-false n 10 e))

pub fewest_decimal : (most r n : ℕ) → n < 10 ^ suc most → IsDigitCount 10 1 n r → last_digits 10 r n ≡ decimal_in (suc most) n
unfolding decimal_in
fewest_decimal most zero n h f = absurd (omega (arith, f.0))
fewest_decimal zero (suc r) n h f = choose n r [] (ltb n 10) refl f (λ k. absurd (omega arith))
fewest_decimal (suc most) (suc r) n h f =
    choose n r (decimal_in (suc most) (n / 10)) (ltb n 10) refl f
    (λ k. fewest_decimal most r (n / 10) (omega (arith, pow_step 10 (suc most))) (off n r k f))
