-- Document 01, "Float helpers": what the parts of the code of the square root give, on whole numbers and bit patterns.
use Prim.Native.Nat.{ℕ, ◌+◌, ◌*◌, ◌^◌, ◌≤◌, ◌<◌, compare}
use Rattle.std.specs.Prelude.{◌≡◌, Float}
use Rattle.std.specs.Float.{binary64}
use Rattle.std.specs.Float.Ieee.{nearest, of_bits}
use Rattle.square_root.specs.Sqrt.{isqrt}

-- the whole number nearest to the root of n
unfoldable pub rounded_root : ℕ → ℕ
rounded_root n = let q = isqrt n in nearest q (compare (4 * n) ((2 * q + 1) * (2 * q + 1)))

-- r is the bit pattern of the double x, which is finite and has no sign
pub record Bits (x : Float) (r : ℕ) : Type 0 where
  pub value : of_bits binary64 r ≡ x
  pub finite : r < 2047 * 2 ^ 52

-- t has 53 digits once r zeros stand after it
pub record Lifted (t r : ℕ) : Type 0 where
  pub least : 2 ^ 52 ≤ t * 2 ^ r
  pub under : t * 2 ^ r < 2 ^ 53
  pub few : r ≤ 52

-- m has 53 digits, and m * 2 ^ e is a double above zero in units of 2 ^ -2148
pub record Scaled (m e : ℕ) : Type 0 where
  pub least : 2 ^ 52 ≤ m
  pub under : m < 2 ^ 53
  pub low : 53 ≤ e
  pub high : e < 4096
