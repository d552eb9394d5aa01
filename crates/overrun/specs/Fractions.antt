-- Document 02, A14: "the fraction reduced by Euclid's method", and what is proved of it (`Rattle.overrun.proofs.Fractions` proves it).
use Rattle.std.specs.Prelude.{◌≡◌, ℕ, zero, suc, ◌*◌, ◌/◌, ◌%◌, ◌<◌}
use Rattle.std.specs.Int.{◌∣◌}

-- Euclid's method, in at most n steps: a and b have the common divisors of b and the remainder of a by b; with 0 the greatest is a
unfoldable pub euclid : ℕ → ℕ → ℕ → ℕ
euclid zero a b = a
euclid (suc n) a zero = a
euclid (suc n) a (suc b) = euclid n (suc b) (a % suc b)

-- the greatest common divisor of a and b: b steps are enough, since each makes the second number less
abbrev pub gcd : ℕ → ℕ → ℕ
gcd a b = euclid b a b

-- a fraction
pub record Fraction : Type 0 where
  pub upper : ℕ
  pub lower : ℕ

-- a / b reduced: both divided by their greatest common divisor
abbrev pub in_lowest_terms : ℕ → ℕ → Fraction
in_lowest_terms a b = record { upper = a / gcd a b; lower = b / gcd a b }

-- g divides a and b, and whatever divides both divides g
pub record GreatestDivisor (a b g : ℕ) : Type 0 where
  pub left : g ∣ a
  pub right : g ∣ b
  pub greatest : (d : ℕ) → d ∣ a → d ∣ b → d ∣ g

-- a fraction has the value a / b, and nothing but 1 divides its two numbers
pub record LowestTerms (a b : ℕ) (f : Fraction) : Type 0 where
  pub above_zero : 0 < f.lower
  pub value : f.upper * b ≡ a * f.lower
  pub only_one : (d : ℕ) → d ∣ f.upper → d ∣ f.lower → d ≡ 1

-- what is proved of `gcd` and `in_lowest_terms`, for all numbers
pub record Reductions : Type 0 where
  pub divisor : (a b : ℕ) → GreatestDivisor a b (gcd a b)
  pub terms : (a b : ℕ) → 0 < b → LowestTerms a b (in_lowest_terms a b)
