-- Document 01, "Questions before and during a fit", and document 02, A3: the four buffers that a fit writes its answer to.
use Rattle.std.specs.Prelude.{List, ℕ, Float}

-- what trend, cycle, knots and dual hold
pub record Outputs : Type 0 where
  pub trend : List Float
  pub cycle : List Float
  pub knots : List ℕ
  pub dual : List Float

-- from a function's arguments
abbrev pub outputs : List Float → List Float → List ℕ → List Float → Outputs
outputs trend cycle knots dual = record { trend = trend; cycle = cycle; knots = knots; dual = dual }
