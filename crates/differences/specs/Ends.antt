-- The two places that `fall` subtracts, by name: for the contracts of our own functions.
use Rattle.std.specs.Prelude.{cond, ℕ, ◌-◌, ltb, Float}
use Rattle.float64.specs.Ops.{c0}

-- w[j-1], +0 before the start
abbrev pub before : (ℕ → Float) → ℕ → Float
before w j = cond (ltb 0 j) (w (j - 1)) c0

-- w[j] of a series of m places, +0 beyond its end
abbrev pub here : ℕ → (ℕ → Float) → ℕ → Float
here m w j = cond (ltb j m) (w j) c0
