-- Document 01, "Interior point": a point of the dual search.
use Rattle.std.specs.Prelude.{List, ℕ, Float}
use Rattle.vectors.specs.Vec.{at}

-- a dual point with its multipliers; also a direction in which it moves
pub record Dual : Type 0 where
  pub z : List Float
  pub mu1 : List Float
  pub mu2 : List Float

-- its three numbers at one place
pub record Values : Type 0 where
  pub z : Float
  pub mu1 : Float
  pub mu2 : Float

-- those at place i
abbrev pub values_at : Dual → ℕ → Values
values_at p i = record { z = at p.z i; mu1 = at p.mu1 i; mu2 = at p.mu2 i }
