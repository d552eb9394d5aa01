-- What `overrun` is where the rate has no zero, by the size of the count, and where it has one. Assumes nothing.
use mathlib.Core.Path.{◌≡◌, refl, ap, ◌∙◌}
use mathlib.Core.Bool.{true, false, cond, and-false}
use mathlib.Core.Logic.{◌⊎◌, inl, inr}
use mathlib.Core.List.{List}
use Prim.Native.Nat.{ℕ, suc, ◌+◌, ◌-◌, ◌*◌, ◌^◌, ◌≤◌, ◌<◌}
use native.Mathlib.Nat.{mul_comm, add-zero}
use native.Mathlib.Omega.{arith}
use lib.ListN.{take, drop}
use lib.Dec.{ltb}
use lib.Ieee.{Float, nan, binary64, round, neg}
use borrow.Author.Tests.{lt-ltb, le-ltb}
use Rattle.framing.specs.Bytes.{number_at, signed32}
use Rattle.framing.proofs.Floats.{round-neg, neg-cond}
use Rattle.framing.proofs.Numbers.{number_of_part}
use Rattle.overrun.specs.Fractions.{in_lowest_terms}
use Rattle.overrun.specs.Overrun.{Frames, frames_in, overrun}
use Rattle.overrun.specs.Inner.{quotient_of}

-- by the count as it is read, and the rate
abbrev pub frames : ℕ → ℕ → ℕ → Frames
frames x n d = record { count = signed32 x; numerator = n; denominator = d }

-- the frames of a body that is a part of the input
pub frames_in_lem : (s : List ℕ) (b : ℕ) → frames (number_at b 4 s) (number_at (b + 4) 4 s) (number_at (b + 8) 4 s) ≡ frames_in (take 12 (drop b s))
frames_in_lem s b = rw (number_of_part s b 12 0 4 (omega arith), number_of_part s b 12 4 4 (omega arith), number_of_part s b 12 8 4 (omega arith), add-zero b)

neg_quotient : (a b : ℕ) → neg (quotient_of a b) ≡ cond (ltb (in_lowest_terms a b).upper (2 ^ 53)) (round binary64 true (in_lowest_terms a b).upper (in_lowest_terms a b).lower) nan
unfolding quotient_of neg
neg_quotient a b =
    let f = in_lowest_terms a b in
    neg-cond (ltb f.upper (2 ^ 53)) (round binary64 false f.upper f.lower) nan (round binary64 true f.upper f.lower) nan (round-neg binary64 f.upper f.lower) refl

-- the answer of `quotient`, and the same negated
module _ (x n d : ℕ) (N : 0 < n) (D : 0 < d) {r : Float} {a b c : ℕ} (R : r ≡ quotient_of (a * b) c) where
  pub forward : x < 2147483648 → a ≡ 1000 * x → b ≡ d → c ≡ n → r ≡ overrun (frames x n d)
  unfolding overrun quotient_of signed32
  forward h A B C = R ∙ rw (A, B, C, lt-ltb x 2147483648 h, lt-ltb 0 n N, lt-ltb 0 d D, mul_comm 1000 x)

  pub backward : 2147483648 ≤ x → a ≡ 1000 * suc (4294967295 - x) → b ≡ d → c ≡ n → neg r ≡ overrun (frames x n d)
  unfolding overrun quotient_of signed32
  backward h A B C = ap neg R ∙ rw (A, B, C, le-ltb x 2147483648 h, lt-ltb 0 n N, lt-ltb 0 d D, mul_comm 1000 (suc (4294967295 - x))) (neg_quotient (suc (4294967295 - x) * 1000 * d) n)

pub unrated : (x n d : ℕ) → (n ≡ 0) ⊎ (d ≡ 0) → nan ≡ overrun (frames x n d)
unfolding overrun
unrated x n d (inl e) = rw e
unrated x n d (inr e) = rw (e, and-false (ltb 0 n))
