-- Document 01, "Kept, added, dropped": each operation of a double is IEEE 754's, rounded once, to nearest even. And the numbers that document 01 names, by their bits.
-- How a formula groups: application first, then ⊗ and ⊘, then ⊕ and ⊖, each from left to right. a ⊗ b ⊗ c is (a·b)·c, and a ⊕ b ⊘ c ⊖ d is (a + b/c) − d.
use Rattle.std.specs.Prelude.{Float}
use Rattle.std.specs.Float.{binary64}
use Rattle.std.specs.Float.Ieee.{add, sub, mul, div, of_bits}

infixl 65 ◌⊕◌
infixl 65 ◌⊖◌
infixl 70 ◌⊗◌
infixl 70 ◌⊘◌
abbrev pub ◌⊕◌ : Float → Float → Float
a ⊕ b = add binary64 a b

abbrev pub ◌⊖◌ : Float → Float → Float
a ⊖ b = sub binary64 a b

abbrev pub ◌⊗◌ : Float → Float → Float
a ⊗ b = mul binary64 a b

abbrev pub ◌⊘◌ : Float → Float → Float
a ⊘ b = div binary64 a b

abbrev pub c0 : Float
c0 = of_bits binary64 0  -- +0

abbrev pub c1 : Float
c1 = of_bits binary64 0x3ff0_0000_0000_0000  -- 1

abbrev pub c2 : Float
c2 = of_bits binary64 0x4000_0000_0000_0000  -- 2

abbrev pub half : Float
half = of_bits binary64 0x3fe0_0000_0000_0000  -- 0.5

abbrev pub c0·99 : Float
c0·99 = of_bits binary64 0x3fef_ae14_7ae1_47ae  -- 0.99

abbrev pub c0·01 : Float
c0·01 = of_bits binary64 0x3f84_7ae1_47ae_147b  -- 0.01

abbrev pub c0·2 : Float
c0·2 = of_bits binary64 0x3fc9_9999_9999_999a  -- 0.2

abbrev pub c1·2 : Float
c1·2 = of_bits binary64 0x3ff3_3333_3333_3333  -- 1.2

abbrev pub c1e_6 : Float
c1e_6 = of_bits binary64 0x3eb0_c6f7_a0b5_ed8d  -- 1e-6

abbrev pub c1e_10 : Float
c1e_10 = of_bits binary64 0x3ddb_7cdf_d9d7_bdbb  -- 1e-10

abbrev pub c1e_12 : Float
c1e_12 = of_bits binary64 0x3d71_9799_812d_ea11  -- 1e-12

abbrev pub infinity : Float
infinity = of_bits binary64 0x7ff0_0000_0000_0000  -- infinity
