-- Demand 3: the numeric bounds, and the units in which its gaps are counted.
use Rattle.std.specs.Prelude.{ℕ, ◌+◌, ◌*◌, ◌^◌, ◌≤◌, ◌≡◌, true, cond, ℤ, pos, neg_ℤ, ◌*ℤ◌, ◌≤ℤ◌, Float}
use Rattle.float64.specs.Helpers.{is_finite}
use Rattle.float64.specs.Units.{in_units, has_minus}

-- a finite double as a whole number of units of 2^-1074, with its sign; 0 for a NaN or an infinity. Nothing is cut off (`Rattle.float64.proofs.Doubles`, `units-whole`).
abbrev pub units : Float → ℤ
units x = cond (has_minus x) (neg_ℤ (pos (in_units x))) (pos (in_units x))

-- the numeric bounds on a search with the step limit max_iter: on its iterations, its improvements J, its first and its best gap
pub record Bounded (max_iter n_iter improvements : ℕ) (first best : Float) : Type 0 where
  -- n_iter is at most max_iter
  pub limit : n_iter ≤ max_iter
  -- and at most 10·J + 10,
  pub ten : n_iter ≤ 10 * improvements + 10
  -- and J is at most 144,763.
  pub few : improvements ≤ 144763
  -- If the first and best gaps are finite, best gap × 100^J is at most first gap × 99^J as exact numbers, each gap counted in whole units of 2^-1074.
  pub shrunk : is_finite first ≡ true → is_finite best ≡ true → (units best *ℤ pos (100 ^ improvements)) ≤ℤ (units first *ℤ pos (99 ^ improvements))
