-- Document 01, "Polish, knots, closed paths": which places are held, and the compressed system over the others. k is the order, g the Gram row, dy is D y, p the point at which the search ended, m its places; h tells how each place is held.
use Rattle.std.specs.Prelude.{Bool, true, false, cond, List, ℕ, zero, suc, ◌+◌, ◌-◌, min, length, get_or, Float}
use Rattle.std.specs.Float.Ieee.{neg, lt}
use Rattle.float64.specs.Ops.{◌⊕◌, ◌⊖◌, ◌⊗◌, c0}
use Rattle.vectors.specs.Vec.{at, apart, list, places_to}
use Rattle.banded.specs.Rows.{Matrix, rows}
use Rattle.banded.specs.Solve.{solve}
use Rattle.gram.specs.Gram.{gram}
use Rattle.active_set.specs.declared.Hold.{Hold}
use Rattle.active_set.specs.declared.Hold.TheVariants.{Free, Upper, Lower}
use Rattle.dual_point.specs.Dual.{Dual}

-- place i is held at lam if mu1 > lam - z, else at -lam if mu2 > lam + z
unfoldable pub hold_at : Float → Dual → ℕ → Hold
hold_at lam p i = cond (lt (lam ⊖ at p.z i) (at p.mu1 i)) Upper (cond (lt (lam ⊕ at p.z i) (at p.mu2 i)) Lower Free)

-- whether it is free
abbrev pub is_free : Hold → Bool
is_free Free = true
is_free Upper = false
is_free Lower = false

-- where it is held; +0 where it is free
abbrev pub held_at : Float → Hold → Float
held_at lam Free = c0
held_at lam Upper = lam
held_at lam Lower = neg lam

-- the free places below n, rising
unfoldable pub free_to : (ℕ → Hold) → ℕ → List ℕ
free_to h n = places_to (λ i. is_free (h i)) n

-- the compressed system over the free places f: D D' between any two of them, at row i and a column j up to i
unfoldable pub compressed : ℕ → List Float → List ℕ → Matrix
compressed k g f i j = gram k g (get_or f i 0) (get_or f j 0)

-- v, less g at |i - j| times where place j, held as t says, is held; v itself where j is free
abbrev pub less_held : Float → List Float → ℕ → ℕ → Hold → Float → Float
less_held lam g i j t v = cond (is_free t) v (v ⊖ at g (apart i j) ⊗ held_at lam t)

-- the same for each of the n places from lo on, upwards
unfoldable pub less_to : Float → List Float → (ℕ → Hold) → ℕ → ℕ → Float → ℕ → Float
less_to lam g h i lo v zero = v
less_to lam g h i lo v (suc n) = less_held lam g i (lo + n) (h (lo + n)) (less_to lam g h i lo v n)

-- the right side at the free place i of m: D y less what the held places from i - k (subtraction stops at 0) to i + k account for
unfoldable pub compressed_rhs_at : ℕ → List Float → List Float → Float → (ℕ → Hold) → ℕ → ℕ → Float
compressed_rhs_at k g dy lam h m i = let lo = i - k in less_to lam g h i lo (at dy i) (min (i + k + 1) m - lo)

-- at each of the free places f
abbrev pub compressed_rhs : ℕ → List Float → List Float → Float → (ℕ → Hold) → ℕ → List ℕ → List Float
compressed_rhs k g dy lam h m f = list (length f) (λ r. compressed_rhs_at k g dy lam h m (get_or f r 0))

-- the solution, by the operations of the factor and the solve
unfoldable pub solved : ℕ → List Float → List Float → Float → (ℕ → Hold) → ℕ → List Float
solved k g dy lam h m = let f = free_to h m in solve k (rows k (compressed k g f) (length f)) (compressed_rhs k g dy lam h m f)
