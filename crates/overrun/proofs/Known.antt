-- Known hours in frames: for each the count and the rate, and the bits of its overrun. One proof covers the table. Assumes nothing.
use mathlib.Core.Path.{◌≡◌, refl}
use mathlib.Core.List.{List, [], ◌∷◌, map}
use Prim.Native.Nat.{ℕ}
use lib.IntN.{ℤ, pos, neg_ℤ}
use lib.Ieee.{binary64, round, to_bits}
use Rattle.overrun.specs.Fractions.{euclid}
use Rattle.overrun.specs.Overrun.{Frames, overrun}

abbrev at : ℤ → ℕ → ℕ → Frames
at k n d = record { count = k; numerator = n; denominator = d }

abbrev refused : ℕ
refused = 0x7ff8_0000_0000_0000

abbrev table : List (Frames × ℕ)
table =
    -- 30000/1001 frames a second: one frame, minus one, none; 207, where the frames times one frame's milliseconds, or the seconds times 1000, would be rounded twice to another double
    (at (pos 1) 30000 1001, 0x4040_aeee_eeee_eeef)
    ∷ (at (neg_ℤ (pos 1)) 30000 1001, 0xc040_aeee_eeee_eeef)
    ∷ (at (pos 0) 30000 1001, 0x0000_0000_0000_0000)
    ∷ (at (pos 207) 30000 1001, 0x40ba_fae6_6666_6666)
    -- a second; the least count; one frame at the highest rate
    ∷ (at (pos 24) 24 1, 0x408f_4000_0000_0000)
    ∷ (at (neg_ℤ (pos 2147483648)) 1 1, 0xc27f_4000_0000_0000)
    ∷ (at (pos 1) 4294967295 1, 0x3e8f_4000_001f_4000)
    -- a large common factor: 2147483647500
    ∷ (at (pos 2147483647) 4294967294 4294967295, 0x427f_3fff_ffe0_c000)
    -- the upper number is 2^53 - 1 (over 7), 2^53 (over 3, and over 1), and far more
    ∷ (at (pos 20394401) 7000 441650591, 0x4312_4924_9249_2492)
    ∷ (at (pos 67108864) 3000 134217728, refused)
    ∷ (at (pos 67108864) 1000 134217728, refused)
    ∷ (at (pos 2147483647) 4294967291 4294967295, refused)
    -- a zero in the rate
    ∷ (at (pos 1) 0 1, refused)
    ∷ (at (pos 1) 1 0, refused)
    ∷ (at (pos 0) 0 1, refused)
    ∷ (at (pos 0) 1 0, refused)
    ∷ (at (pos 0) 0 0, refused)
    ∷ []

known : map (λ (p : Frames × ℕ). to_bits binary64 (overrun p.0)) table ≡ map (λ (p : Frames × ℕ). p.1) table
unfolding overrun euclid round to_bits
known = refl
