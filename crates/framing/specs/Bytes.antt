-- Document 01, "The weekly program": numbers are little-endian, milliseconds are signed.
use Rattle.std.specs.Prelude.{ℕ, ◌+◌, ◌*◌, ◌-◌, cond, List, [], ◌∷◌, take, drop, ltb, ℤ, pos, negsuc}

-- the number that bytes spell, the lowest first
unfoldable pub little_endian : List ℕ → ℕ
little_endian [] = 0
little_endian (b ∷ bs) = b + 256 * little_endian bs

-- the number that the n bytes from `at` on spell
abbrev pub number_at : ℕ → ℕ → List ℕ → ℕ
number_at at n s = little_endian (take n (drop at s))

-- a number of 32 bits read as a signed one: from 2^31 on it is less by 2^32 (negsuc k is −1 − k)
unfoldable pub signed32 : ℕ → ℤ
signed32 x = cond (ltb x 2147483648) (pos x) (negsuc (4294967295 - x))
