-- A dual point as it stands in a run of numbers: z, mu1, mu2, m places each. For the contracts between our own crates.
use Rattle.std.specs.Prelude.{List, ℕ, ◌+◌, Float}
use Rattle.vectors.specs.Parts.{part}
use Rattle.dual_point.specs.Dual.{Dual}

-- the point, or the direction, whose three parts of m stand from a on
abbrev pub point : ℕ → ℕ → List Float → Dual
point a m s = record { z = part a m s; mu1 = part (a + m) m s; mu2 = part (a + m + m) m s }
