-- Document 01, "The weekly program": fields are parted by one space, whole numbers print in decimal, doubles as 16 lower-case hexadecimal digits, highest first, any NaN 7ff8000000000000.
use Rattle.std.specs.Prelude.{ℕ, zero, suc, ◌/◌, ◌%◌, cond, List, [], ◌∷◌, ◌++◌, ltb, Float}
use Rattle.std.specs.Float.{binary64}
use Rattle.std.specs.Float.Ieee.{to_bits}
use Rattle.io.specs.Digits.{hex_digit_ascii, last_digits}

-- a whole number in decimal, of at most `most` digits
unfoldable pub decimal_in : ℕ → ℕ → List ℕ
decimal_in zero n = []
decimal_in (suc most) n = cond (ltb n 10) (hex_digit_ascii n ∷ []) (decimal_in most (n / 10) ++ (hex_digit_ascii (n % 10) ∷ []))

-- a whole number below 10 ^ 20, as every one of 64 bits is
unfoldable pub decimal : ℕ → List ℕ
decimal n = decimal_in 20 n

-- a double: its bits as sixteen hexadecimal digits, the highest first. `to_bits` has 7ff8000000000000 for the NaN
unfoldable pub hex_of : Float → List ℕ
hex_of x = last_digits 16 16 (to_bits binary64 x)

-- a field that is not a line's first, after its space
unfoldable pub field : ℕ → List ℕ
field n = (32 ∷ []) ++ decimal n

-- the same of a double
unfoldable pub hex_field : Float → List ℕ
hex_field x = (32 ∷ []) ++ hex_of x
