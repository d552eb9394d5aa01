-- A finite double as a whole number of small units, and its sign.
use Rattle.std.specs.Prelude.{ℕ, ◌*◌, ◌/◌, ◌^◌, Bool, false, Float}
use Rattle.std.specs.Float.{nan, inf, fin}
use Rattle.std.specs.Float.Ieee.{up, down}

-- a finite double's size, counted in units of 2 ^ -1074: a whole number; 0 for a NaN or an infinity
abbrev pub in_units : Float → ℕ
in_units nan = 0
in_units (inf s) = 0
in_units (fin s m e) = m * up e * 2 ^ 1074 / down e

-- the same in units of 2 ^ -2148
abbrev pub in_squares : Float → ℕ
in_squares nan = 0
in_squares (inf s) = 0
in_squares (fin s m e) = m * up e * 2 ^ 2148 / down e

-- whether its sign is minus
abbrev pub has_minus : Float → Bool
has_minus nan = false
has_minus (inf s) = s
has_minus (fin s m e) = s
