-- Document 01, "Differences and bands": solve does the Rust's operations in its order. The solution of L D L' x = b, where f holds the rows of the factor: L left of the diagonal, the pivots d on it.
use Rattle.std.specs.Prelude.{List, [], ◌∷◌, ◌++◌, ℕ, zero, suc, ◌+◌, ◌-◌, min, length, Float}
use Rattle.float64.specs.Ops.{◌⊗◌, ◌⊘◌}
use Rattle.vectors.specs.Vec.{at, list}
use Rattle.banded.specs.Rows.{Matrix, of_rows, less_from}

-- L u = b at place i: v = b i, less L i j ⊗ u j for the columns j from i - k (subtraction stops at 0) up to, not including, i
unfoldable pub forward_at : ℕ → Matrix → (ℕ → Float) → Float → ℕ → Float
forward_at k l u v i = less_from v (λ j. l i j ⊗ u j) (i - k) i

-- the first n places of u
unfoldable pub forward : ℕ → List (List Float) → List Float → ℕ → List Float
forward k f b zero = []
forward k f b (suc i) = let u = forward k f b i in u ++ (forward_at k (of_rows k f) (at u) (at b i) i ∷ [])

-- D w = u
unfoldable pub divided : ℕ → List (List Float) → List Float → List Float
divided k f u = list (length u) (λ i. at u i ⊘ of_rows k f i i)

-- L' x = w at place i: v = w i, less L r i ⊗ x r for the rows r from i + 1 to i + k, where there are m
unfoldable pub back_at : ℕ → Matrix → (ℕ → Float) → Float → ℕ → ℕ → Float
back_at k l x v i m = less_from v (λ r. l r i ⊗ x r) (i + 1) (min (i + k + 1) m)

-- the last n places of x, from the end; y has those after place i
unfoldable pub back : ℕ → List (List Float) → List Float → ℕ → List Float
back k f w zero = []
back k f w (suc n) = let y = back k f w n in let m = length w in let i = m - (n + 1) in back_at k (of_rows k f) (λ r. at y (r - (i + 1))) (at w i) i m ∷ y

-- x
unfoldable pub solve : ℕ → List (List Float) → List Float → List Float
solve k f b = let w = divided k f (forward k f b (length b)) in back k f w (length w)
