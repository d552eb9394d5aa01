-- Document 01, "Differences and bands": factor does the Rust's operations in its order, skipping places before row 0. The L D L' factor of a symmetric matrix of bandwidth k, a row at a time.
-- Of a matrix only row i's columns from i - k to i are read. Subtraction stops at 0: in the first rows i - k is 0.
use Rattle.std.specs.Prelude.{Bool, true, cond, ◌&&◌, List, [], ◌∷◌, ◌++◌, ℕ, zero, suc, ◌+◌, ◌-◌, ltb, get_or, Float}
use Rattle.std.specs.Float.Ieee.{lt}
use Rattle.float64.specs.Helpers.{is_finite}
use Rattle.float64.specs.Ops.{◌⊖◌, ◌⊗◌, ◌⊘◌, c0}
use Rattle.vectors.specs.Vec.{at}

-- a matrix: its number at each row and column
abbrev pub Matrix : Type 0
Matrix = ℕ → ℕ → Float

-- ---- the factor at one row and column, where l has the rows above and the columns to the left: L left of the diagonal, the pivots d on it

-- v, less f 0, f 1, .. , f (n - 1), in that order
unfoldable pub less : Float → (ℕ → Float) → ℕ → Float
less v f zero = v
less v f (suc n) = less v f n ⊖ f n

-- v, less f lo, f (lo + 1), .. , f (hi - 1), in that order
unfoldable pub less_from : Float → (ℕ → Float) → ℕ → ℕ → Float
less_from v f lo hi = less v (λ n. f (lo + n)) (hi - lo)

-- a i j, less L i t ⊗ L j t ⊗ d t for the columns t from i - k up to, not including, j
unfoldable pub reduced : ℕ → Matrix → Matrix → Matrix
reduced k a l i j = less_from (a i j) (λ t. l i t ⊗ l j t ⊗ l t t) (i - k) j

-- L i j, which is divided by the pivot of its column; on the diagonal the pivot d i
unfoldable pub entry : ℕ → Matrix → Matrix → Matrix
entry k a l i j = cond (ltb j i) (reduced k a l i j ⊘ l j j) (reduced k a l i j)

-- ---- the factor is kept in rows of k + 1 places: place c of row i is column i + c - k, the last place the diagonal

-- row i of a list of rows
abbrev pub line : List (List Float) → ℕ → List Float
line f i = get_or f i []

-- the matrix that such rows keep
abbrev pub of_rows : ℕ → List (List Float) → Matrix
of_rows k f i j = at (line f i) (j + k - i)

-- what stands for the matrix a at place c of row i: +0 where there is no such column
unfoldable pub placed : ℕ → Matrix → ℕ → ℕ → Float
placed k a i c = cond (ltb (i + c) k) c0 (a i (i + c - k))

-- the first n places of row i of the factor of a, left to right; f has the rows above
unfoldable pub row_to : ℕ → Matrix → List (List Float) → ℕ → ℕ → List Float
row_to k a f i zero = []
row_to k a f i (suc c) = let p = row_to k a f i c in p ++ (placed k (entry k a (of_rows k (f ++ (p ∷ [])))) i c ∷ [])

-- row i: L from column i - k on, then its pivot
unfoldable pub row : ℕ → Matrix → List (List Float) → ℕ → List Float
row k a f i = row_to k a f i (k + 1)

-- the first m rows
unfoldable pub rows : ℕ → Matrix → ℕ → List (List Float)
rows k a zero = []
rows k a (suc i) = rows k a i ++ (row k a (rows k a i) i ∷ [])

-- a pivot is finite and above 0
abbrev pub good : Float → Bool
good x = is_finite x && lt c0 x

-- whether the pivots of the first m rows, each its row's last place, are all good
unfoldable pub sound : ℕ → Matrix → ℕ → Bool
sound k a zero = true
sound k a (suc i) = sound k a i && good (at (row k a (rows k a i) i) k)
