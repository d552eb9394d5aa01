-- Document 01, "The weekly program": the lines that are printed, byte by byte. Lines end in byte 10.
use Rattle.std.specs.Prelude.{ℕ, List, [], ◌∷◌, ◌++◌, Float}
use Rattle.fields.specs.Fields.{field, hex_of, hex_field}

-- three fields
unfoldable pub three : ℕ → ℕ → ℕ → List ℕ
three a b c = field a ++ field b ++ field c

-- `fit` (102 105 116) and its fields
unfoldable pub fit_line : List ℕ → List ℕ
fit_line fs = (102 ∷ 105 ∷ 116 ∷ []) ++ fs ++ (10 ∷ [])

-- three doubles
unfoldable pub numbers_line : Float → Float → Float → List ℕ
numbers_line a b c = hex_of a ++ hex_field b ++ hex_field c ++ (10 ∷ [])

-- `h` (104), the hour's position, its trend and its cycle
unfoldable pub hour_line : ℕ → Float → Float → List ℕ
hour_line i t c = (104 ∷ []) ++ field i ++ hex_field t ++ hex_field c ++ (10 ∷ [])

-- the lines of hours with these positions, trend and cycle
unfoldable pub hour_lines : List ℕ → List Float → List Float → List ℕ
hour_lines [] ts cs = []
hour_lines (p ∷ ps) [] cs = []
hour_lines (p ∷ ps) (t ∷ ts) [] = []
hour_lines (p ∷ ps) (t ∷ ts) (c ∷ cs) = hour_line p t c ++ hour_lines ps ts cs

-- `knot` (107 110 111 116) and its position
unfoldable pub knot_line : ℕ → List ℕ
knot_line i = (107 ∷ 110 ∷ 111 ∷ 116 ∷ []) ++ field i ++ (10 ∷ [])

-- a line for each knot
unfoldable pub knot_lines : List ℕ → List ℕ
knot_lines [] = []
knot_lines (k ∷ ks) = knot_line k ++ knot_lines ks

-- `refused` (114 101 102 117 115 101 100) and its number
unfoldable pub refused_line : ℕ → List ℕ
refused_line k = (114 ∷ 101 ∷ 102 ∷ 117 ∷ 115 ∷ 101 ∷ 100 ∷ []) ++ field k ++ (10 ∷ [])
