-- Document 01, "Known fits and edges": the roots that it names, with a few more, in one table that a lone proof covers. Assumes nothing.
use mathlib.Core.Path.{◌≡◌, refl}
use mathlib.Core.List.{List, [], ◌∷◌, map}
use Prim.Native.Nat.{ℕ}
use lib.Ieee.{binary64, of_bits}
use Rattle.square_root.specs.Sqrt.{sqrt_of}

-- the bits of a double, and those of its root
abbrev pub known_roots : List (ℕ × ℕ)
known_roots =
    (0x4010_0000_0000_0000, 0x4000_0000_0000_0000)  -- 4 gives 2
    ∷ (0x0000_0000_0000_0001, 0x1e60_0000_0000_0000)  -- 2 ^ -1074 gives 2 ^ -537
    ∷ (0x3ff0_0000_0000_0001, 0x3ff0_0000_0000_0000)  -- 1 + 2 ^ -52 gives 1
    ∷ (0x4000_0000_0000_0000, 0x3ff6_a09e_667f_3bcd)  -- 2
    ∷ (0x000f_ffff_ffff_ffff, 0x1fff_ffff_ffff_ffff)  -- the largest subnormal
    ∷ (0x7fef_ffff_ffff_ffff, 0x5fef_ffff_ffff_ffff)  -- the largest double
    ∷ (0x0000_0000_0000_0000, 0x0000_0000_0000_0000)  -- +0 stays
    ∷ (0x8000_0000_0000_0000, 0x8000_0000_0000_0000)  -- -0 stays
    ∷ (0x7ff0_0000_0000_0000, 0x7ff0_0000_0000_0000)  -- infinity stays
    ∷ (0xfff0_0000_0000_0000, 0x7ff8_0000_0000_0000)  -- -infinity gives NaN
    ∷ (0xbff0_0000_0000_0000, 0x7ff8_0000_0000_0000)  -- -1 gives NaN
    ∷ (0x8000_0000_0000_0001, 0x7ff8_0000_0000_0000)  -- -2 ^ -1074 gives NaN
    ∷ (0x7ff8_0000_0000_0000, 0x7ff8_0000_0000_0000)  -- NaN stays
    ∷ []

pub known-roots : map (λ (p : ℕ × ℕ). sqrt_of (of_bits binary64 p.0)) known_roots ≡ map (λ (p : ℕ × ℕ). of_bits binary64 p.1) known_roots
unfolding sqrt_of of_bits
known-roots = refl
