-- Document 01, "Interior point": the Newton system of a point, as our own contracts speak of it: what they ask, and a row of it.
use Rattle.std.specs.Prelude.{◌≡◌, cond, List, ℕ, ◌+◌, ◌-◌, ◌<◌, ◌≤◌, ltb, take, Float}
use Rattle.vectors.specs.Vec.{at}
use Rattle.differences.specs.Series.{Order}
use Rattle.gram.specs.Gram.{product}
use Rattle.dual_point.specs.Dual.{Dual, values_at}
use Rattle.dual_point.specs.Places.{point}
use Rattle.newton_system.specs.Newton.{NewtonData, residual_square_at, system, rhs}
use Rattle.newton_system.specs.declared.Row.{Row}

-- the data of a step, from the arguments that its functions take
abbrev pub data_of : ℕ → List Float → List Float → Float → Float → NewtonData
data_of k g dy lam inv_t = record { k = k; g = g; dy = dy; lam = lam; inv_t = inv_t }

-- place r of a point of m places, in a run of n places, with D y in l places
pub record AtRow (k m r n l : ℕ) : Type 0 where
  pub order : Order k
  pub three : m + m + m ≤ n
  pub diffs : m ≤ l
  pub row : r < m

-- place c of a row of the system: the Gram row beside the diagonal d
abbrev pub besides : ℕ → List Float → Float → ℕ → Float
besides k g d c = cond (ltb c k) (at g (k - c)) d

-- the residual's square at place i
abbrev pub residual_square_of : NewtonData → Dual → ℕ → Float
residual_square_of c p i = residual_square_at c.lam c.inv_t (product c.k c.g p.z i) (at c.dy i) (values_at p i)

-- v is row r of the system of p
pub record RowMade (k : ℕ) (g dy : List Float) (lam inv_t : Float) (p : Dual) (r : ℕ) (v : Row) : Type 0 where
  pub diagonal : v.diagonal ≡ system k g lam p r r
  pub side : v.right ≡ at (rhs (data_of k g dy lam inv_t) p) r
  pub square : v.square ≡ residual_square_of (data_of k g dy lam inv_t) p r
