-- Document 01, "Differences and bands": factor and solve do the Rust's operations in their order. A row of order 1 or 2 away from the first rows, from the numbers of the rows above it.
use Rattle.std.specs.Prelude.{◌≡◌, Float}
use Rattle.float64.specs.Ops.{◌⊖◌, ◌⊗◌, ◌⊘◌}
use Rattle.elimination.specs.declared.Row1.{Row1}
use Rattle.elimination.specs.declared.Row2.{Row2}

-- order 1: a b is the row, x its right side; d is the pivot of the row above, u its right side carried forward
pub record Next1Made (a b x d u : Float) (w : Row1) : Type 0 where
  pub left : w.left ≡ a ⊘ d
  pub pivot : w.pivot ≡ b ⊖ w.left ⊗ w.left ⊗ d
  pub side : w.side ≡ x ⊖ w.left ⊗ u

-- order 2: a b c is the row, x its right side; l d1 are the last numbers of the row above, d2 the pivot of the one above that; u1 and u2 their right sides carried forward
pub record Next2Made (a b c x d2 l d1 u2 u1 : Float) (w : Row2) : Type 0 where
  pub far : w.far ≡ a ⊘ d2
  pub left : w.left ≡ (b ⊖ w.far ⊗ l ⊗ d2) ⊘ d1
  pub pivot : w.pivot ≡ c ⊖ w.far ⊗ w.far ⊗ d2 ⊖ w.left ⊗ w.left ⊗ d1
  pub side : w.side ≡ x ⊖ w.far ⊗ u2 ⊖ w.left ⊗ u1
