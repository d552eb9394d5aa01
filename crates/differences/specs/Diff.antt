-- Document 01, "Differences and bands": D, D', the stencil and the Gram row. k is the order.
use Rattle.std.specs.Prelude.{cond, List, [], ◌∷◌, ℕ, zero, suc, ◌+◌, ◌-◌, ltb, eqb, length, Float}
use Rattle.std.specs.Float.Ieee.{neg, of_bits}
use Rattle.std.specs.Float.{binary64}
use Rattle.float64.specs.Ops.{◌⊖◌, c0, c1, c2}
use Rattle.vectors.specs.Vec.{at, list}

-- w[i+1] - w[i]
abbrev pub rise : List Float → ℕ → Float
rise w i = at w (i + 1) ⊖ at w i

-- the first differences: one place fewer (subtraction stops at 0)
unfoldable pub diff : List Float → List Float
diff w = list (length w - 1) (rise w)

-- D: k successive ones
unfoldable pub diff_k : ℕ → List Float → List Float
diff_k zero w = w
diff_k (suc k) w = diff (diff_k k w)

-- w[j-1] - w[j] of a series of m places, +0 beyond either end
abbrev pub fall : ℕ → (ℕ → Float) → ℕ → Float
fall m w j = cond (ltb 0 j) (w (j - 1)) c0 ⊖ cond (ltb j m) (w j) c0

-- the transposed first differences: one place more
unfoldable pub diff_t : List Float → List Float
diff_t w = list (length w + 1) (fall (length w) (at w))

-- D': k successive ones
unfoldable pub diff_kt : ℕ → List Float → List Float
diff_kt zero w = w
diff_kt (suc k) w = diff_t (diff_kt k w)

-- the stencil of D, a row of it, for order 1 and 2; the last place of order 1 is unused
abbrev pub stencil : ℕ → List Float
stencil k = cond (eqb k 1) (neg c1 ∷ c1 ∷ c0 ∷ []) (c1 ∷ neg c2 ∷ c1 ∷ [])

-- the Gram row: D D' at distance 0, 1, 2 from its diagonal
abbrev pub gram_row : ℕ → List Float
gram_row k =
    cond (eqb k 1)
    (c2 ∷ neg c1 ∷ c0 ∷ [])
    (of_bits binary64 0x4018_0000_0000_0000 ∷ neg (of_bits binary64 0x4010_0000_0000_0000) ∷ c1 ∷ [])
