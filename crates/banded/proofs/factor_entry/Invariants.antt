use Rattle.std.proofs.Common.{◌≡◌, ℕ, ◌+◌, ◌-◌, List}
use lib.Ieee.{Float}
use Rattle.float64.specs.Ops.{◌⊗◌}
use Rattle.banded.specs.Rows.{less_from}
use Rattle.banded.specs.Run.{flat, of_run}
use Rattle.banded.proofs.factor_entry.Given as goal

-- what column t takes at row i and column j
abbrev pub products : ℕ → List Float → ℕ → ℕ → ℕ → Float
products k s i j t = of_run k s i t ⊗ of_run k s j t ⊗ of_run k s t t

abbrev pub invariant-loop-t : goal.invariant-loop-t
invariant-loop-t l = l.v ≡ less_from (flat l.k l.s l.r l.c) (products l.k l.s l.r (l.r + l.c - l.k)) (l.r - l.k) (l.r + l.t - l.k)
