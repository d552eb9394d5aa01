-- Laws of Euclid's method: what it finds is the greatest common divisor, and a product is reduced factor by factor. Assumes nothing.
use mathlib.Core.Path.{◌≡◌, sym, ap, ap₂, ◌∙◌}
use Prim.Native.Nat.{ℕ, zero, suc, ◌*◌, ◌/◌, ◌%◌, ◌≤◌, ◌<◌, ◌∣◌, zero-le, suc-le-suc}
use native.Mathlib.Nat.{dvd_refl, dvd-zero, dvd-mul_right, dvd-mul_left_of_dvd, dvd-mod_iff, dvd_antisymm, pos_of_dvd_of_pos, eq-one_of_dvd-one, mul-dvd-mul, mul-dvd-mul_left, dvd_of_mul-dvd-mul_left, mul-div_cancel', div-mul_cancel, mul_comm, mul_assoc, mul_left_comm, mul-mul-mul_comm, mul-one, mul-pos, mod-lt, div-div-eq-div-mul, div-eq_of_eq-mul_right}
use native.Mathlib.Omega.{arith}
use lib.Ieee.Positive.{first_pos}
use Rattle.overrun.specs.Fractions.{euclid, gcd, in_lowest_terms, GreatestDivisor, LowestTerms, Reductions}

-- with 0 it is the other number
alone : (a b : ℕ) → b ≡ 0 → GreatestDivisor a b a
alone a b e = record { left = dvd_refl a; right = rw e (dvd-zero a); greatest = λ d p q. p }

-- what divides b and the remainder of a by b divides a
stepped : (a b g : ℕ) → GreatestDivisor b (a % b) g → GreatestDivisor a b g
stepped a b g r = record {
  left = (dvd-mod_iff g r.left).0 r.right;
  right = r.left;
  greatest = λ d p q. r.greatest d q ((dvd-mod_iff d q).1 p);
}

found : (n a b : ℕ) → b ≤ n → GreatestDivisor a b (euclid n a b)
unfolding euclid
found zero a b h = alone a b (omega arith)
found (suc n) a zero h = alone a 0 (omega arith)
found (suc n) a (suc b) h =
    let less : a % suc b < suc b = mod-lt a (suc-le-suc zero-le) in
    stepped a (suc b) (euclid n (suc b) (a % suc b)) (found n (suc b) (a % suc b) (omega arith))

divisor : (a b : ℕ) → GreatestDivisor a b (gcd a b)
divisor a b = found b a b (omega arith)

-- there is only one greatest divisor
gcd_is : (a b g : ℕ) → GreatestDivisor a b g → gcd a b ≡ g
gcd_is a b g r = dvd_antisymm (r.greatest (gcd a b) (divisor a b).left (divisor a b).right) ((divisor a b).greatest g r.left r.right)

pub gcd-step : (a b : ℕ) → gcd a b ≡ gcd b (a % b)
gcd-step a b = gcd_is a b (gcd b (a % b)) (stepped a b (gcd b (a % b)) (divisor b (a % b)))

pub gcd-zero : (a b : ℕ) → b ≡ 0 → gcd a b ≡ a
gcd-zero a b e = gcd_is a b a (alone a b e)

-- a common factor stands before it
gcd-mul : (c a b : ℕ) → 0 < c → gcd (c * a) (c * b) ≡ c * gcd a b
gcd-mul c a b h =
    let g = gcd (c * a) (c * b) in
    let r = divisor (c * a) (c * b) in
    let k = g / c in
    let e : c * k ≡ g = mul-div_cancel' c (r.greatest c (dvd-mul_right c a) (dvd-mul_right c b)) in
    let s = divisor a b in
    let p : k ∣ a = dvd_of_mul-dvd-mul_left k h (rw e r.left) in
    let q : k ∣ b = dvd_of_mul-dvd-mul_left k h (rw e r.right) in
    dvd_antisymm (rw (← e) (mul-dvd-mul_left k c (s.greatest k p q)))
    (r.greatest (c * gcd a b) (mul-dvd-mul_left (gcd a b) c s.left) (mul-dvd-mul_left (gcd a b) c s.right))

-- a divisor of a number above zero goes into it
quotient_pos : (d : ℕ) {a : ℕ} → d ∣ a → 0 < a → 0 < a / d
quotient_pos d {a} e h = first_pos (a / d) d (rw (div-mul_cancel d e) h)

pub gcd-pos : (a b : ℕ) → 0 < b → 0 < gcd a b
gcd-pos a b h = pos_of_dvd_of_pos (divisor a b).right h

terms : (a b : ℕ) → 0 < b → LowestTerms a b (in_lowest_terms a b)
terms a b h =
    let g = gcd a b in
    let r = divisor a b in
    let p : g * (a / g) ≡ a = mul-div_cancel' g r.left in
    let q : g * (b / g) ≡ b = mul-div_cancel' g r.right in
    record {
      above_zero = quotient_pos g r.right h;
      value = ap (λ (z : ℕ). a / g * z) (sym q) ∙ mul_left_comm (a / g) g (b / g) ∙ sym (mul_assoc g (a / g) (b / g)) ∙ ap (λ (z : ℕ). z * (b / g)) p;
      only_one = λ d u v. eq-one_of_dvd-one (dvd_of_mul-dvd-mul_left d (gcd-pos a b h) (rw mul-one (r.greatest (g * d) (rw p at (mul-dvd-mul_left d g u)) (rw q at (mul-dvd-mul_left d g v)))));
    }

pub reductions : Reductions
reductions = record { divisor = divisor; terms = terms }

-- what is known of a * b / c once a is divided by g, b by h and c by both
pub record Reduced (a b c g h : ℕ) : Type 0 where
  pub first : 0 < g
  pub second : 0 < h
  pub right : 0 < b / h
  pub lower : 0 < c / g / h
  pub terms : in_lowest_terms (a * b) c ≡ record { upper = a / g * (b / h); lower = c / g / h }

-- the divisor of a product, factor by factor
gcd-product : (a b c : ℕ) → 0 < b → 0 < c → gcd (a * b) c ≡ gcd a c * gcd b (c / gcd a c)
gcd-product a b c B C =
    let g = gcd a c in
    let r = divisor b (c / g) in
    let q : g * (c / g) ≡ c = mul-div_cancel' g (divisor a c).right in
    gcd_is (a * b) c (g * gcd b (c / g)) (record {
      left = mul-dvd-mul g (gcd b (c / g)) (divisor a c).left r.left;
      right = rw q at (mul-dvd-mul_left (gcd b (c / g)) g r.right);
      greatest = λ d u v.
          let w : d ∣ b * g = rw (gcd-mul b a c B) at ((divisor (b * a) (b * c)).greatest d (rw (mul_comm b a) u) (dvd-mul_left_of_dvd d v b)) in
          rw (gcd-mul g b (c / g) (gcd-pos a c C)) at ((divisor (g * b) (g * (c / g))).greatest d (rw (mul_comm g b) w) (rw q v));
    })

by_divisors : (a b c : ℕ) → 0 < b → 0 < c → Reduced a b c (gcd a c) (gcd b (c / gcd a c))
by_divisors a b c B C =
    let g = gcd a c in
    let h = gcd b (c / g) in
    let r = divisor a c in
    let t = divisor b (c / g) in
    let G : 0 < g = gcd-pos a c C in
    let D : 0 < c / g = quotient_pos g r.right C in
    let H : 0 < h = gcd-pos b (c / g) D in
    let u : a * b ≡ g * h * (a / g * (b / h)) = ap₂ ◌*◌ (sym (mul-div_cancel' g r.left)) (sym (mul-div_cancel' h t.left)) ∙ mul-mul-mul_comm g (a / g) h (b / h) in
    record {
      first = G;
      second = H;
      right = quotient_pos h t.left B;
      lower = quotient_pos h t.right D;
      terms = rw (gcd-product a b c B C) (ap₂ (λ (x y : ℕ). record { upper = x; lower = y }) (div-eq_of_eq-mul_right (mul-pos G H) u) (sym (div-div-eq-div-mul c g h)));
    }

pub reduced : (a b c g h : ℕ) → 0 < b → 0 < c → g ≡ gcd a c → h ≡ gcd b (c / g) → Reduced a b c g h
reduced a b c g h B C p q = rw (q, p) (by_divisors a b c B C)
