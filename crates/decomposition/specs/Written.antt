-- What the writing out of a fit asks of the buffers lent for it, and what it leaves in them. For the contracts between our own crates.
use Rattle.std.specs.Prelude.{◌≡◌, List, ℕ, ◌≤◌, length, Float}
use Rattle.vectors.specs.Vec.{put}
use Rattle.differences.specs.Diff.{diff_k}
use Rattle.differences.specs.Series.{Series}
use Rattle.certificate.specs.Certificate.{minus}
use Rattle.decomposition.specs.Knots.{knots as knotsOf}

-- what trend, cycle and knots hold
pub record Decomposed : Type 0 where
  pub trend : List Float
  pub cycle : List Float
  pub knots : List ℕ

-- from a function's arguments
abbrev pub decomposed : List Float → List Float → List ℕ → Decomposed
decomposed trend cycle knots = record { trend = trend; cycle = cycle; knots = knots }

-- a series of n places, a trend of as many, and as many for its knots
pub record KnotPlaces (k n x places : ℕ) : Type 0 where
  pub series : Series k n
  pub same : x ≡ n
  pub room : n ≤ places

-- a series y, a trend x of its length, and as many places in each buffer
pub record Places (k : ℕ) (y x : List Float) (b : Decomposed) : Type 0 where
  pub series : Series k (length y)
  pub same : length x ≡ length y
  pub trend : length y ≤ length b.trend
  pub cycle : length y ≤ length b.cycle
  pub knots : length y ≤ length b.knots

-- x, y - x and the knots of x, of which there are count, stand in the first places of the buffers; all others hold what they held before
pub record WroteOut (k : ℕ) (y x : List Float) (count : ℕ) (before after : Decomposed) : Type 0 where
  pub trend : after.trend ≡ put before.trend 0 x
  pub cycle : after.cycle ≡ put before.cycle 0 (minus y x)
  pub knots : after.knots ≡ put before.knots 0 (knotsOf k y (diff_k k x))
  pub count_is : count ≡ length (knotsOf k y (diff_k k x))
