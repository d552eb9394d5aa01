-- Document 01, "Polish, knots, closed paths": what the L2 arm leaves in a run lent to it, for a series of n = length y. For the contracts below the entry.
use Rattle.std.specs.Prelude.{◌≡◌, Bool, true, List, ℕ, ◌+◌, ◌*◌, length, Float}
use Rattle.vectors.specs.Vec.{put}
use Rattle.vectors.specs.Parts.{Kept, part}
use Rattle.differences.specs.Diff.{diff_k}
use Rattle.l2.specs.L2.{sound_l2, trend_l2, scaled, objective_l2, gap_l2}
use Rattle.l2.specs.declared.Ends.{Ends}

-- ok says whether every pivot is good; if so the trend stands after the n·(k+1) places of the rows
pub record SolvedL2 (k : ℕ) (y : List Float) (lam : Float) (s₀ s : List Float) (ok : Bool) : Type 0 where
  pub sound : ok ≡ sound_l2 k y lam
  pub trend : ok ≡ true → part (length y * (k + 1)) (length y) s ≡ trend_l2 k y lam
  pub kept : Kept 0 (length y * (k + 1) + length y) s₀ s

-- r has the objective and the gap of the trend x, and d begins with lam·D x; all else is as found
pub record Ended (k : ℕ) (y : List Float) (lam : Float) (x d₀ d : List Float) (r : Ends) : Type 0 where
  pub objective : r.objective ≡ objective_l2 k y lam x
  pub gap : r.gap ≡ gap_l2 k y lam x
  pub dual : d ≡ put d₀ 0 (scaled lam (diff_k k x))
