-- Document 01, "Float helpers": sums run from index 0 and start at +0. Then the sums and the greatest size that the fit takes of a vector, and whether it lies within a bound.
use Rattle.std.specs.Prelude.{List, ℕ, zero, suc, ◌+◌, ◌-◌, length, Bool, true, ◌&&◌, Float}
use Rattle.std.specs.Float.Ieee.{lt}
use Rattle.float64.specs.Ops.{◌⊕◌, ◌⊗◌, c0}
use Rattle.float64.specs.Helpers.{abs_of, max_of}
use Rattle.vectors.specs.Vec.{at}

-- +0, and f 0, f 1, .. , f (n - 1) added in that order
unfoldable pub sum_to : (ℕ → Float) → ℕ → Float
sum_to f zero = c0
sum_to f (suc n) = sum_to f n ⊕ f n

-- v, and f 0, f 1, .. , f (n - 1) added in that order
unfoldable pub more : Float → (ℕ → Float) → ℕ → Float
more v f zero = v
more v f (suc n) = more v f n ⊕ f n

-- v, and f lo, f (lo + 1), .. , f (hi - 1) added in that order
unfoldable pub more_from : Float → (ℕ → Float) → ℕ → ℕ → Float
more_from v f lo hi = more v (λ n. f (lo + n)) (hi - lo)

-- the greatest of +0, f 0, f 1, .. , f (n - 1), NaN ignored
unfoldable pub max_to : (ℕ → Float) → ℕ → Float
max_to f zero = c0
max_to f (suc n) = max_of (max_to f n) (f n)

-- Σ v²
unfoldable pub norm2_sq : List Float → Float
norm2_sq v = sum_to (λ i. at v i ⊗ at v i) (length v)

-- Σ a·b
unfoldable pub dot : List Float → List Float → Float
dot a b = sum_to (λ i. at a i ⊗ at b i) (length a)

-- Σ |v|
unfoldable pub sum_abs : List Float → Float
sum_abs v = sum_to (λ i. abs_of (at v i)) (length v)

-- max |v|, from 0 and ignoring NaN
unfoldable pub max_abs : List Float → Float
max_abs v = max_to (λ i. abs_of (at v i)) (length v)

-- whether |v i| is below lam for every i below n
unfoldable pub inside_to : Float → List Float → ℕ → Bool
inside_to lam v zero = true
inside_to lam v (suc n) = inside_to lam v n && lt (abs_of (at v n)) lam

-- the same for every place of v
abbrev pub inside : Float → List Float → Bool
inside lam v = inside_to lam v (length v)
