-- Document 01, "Certificate at z": what it leaves in a run whose first places are for the trend and whose next hold z.
use Rattle.std.specs.Prelude.{◌≡◌, List, ℕ, ◌+◌, ◌-◌, ◌≤◌, ◌<◌, length, Float}
use Rattle.std.specs.Fn.{Shared}
use denote.Ref.{Bor}
use Rattle.float64.specs.Ops.{◌⊗◌}
use Rattle.float64.specs.Helpers.{abs_of}
use Rattle.vectors.specs.Vec.{at}
use Rattle.vectors.specs.Parts.{Kept, Written, part}
use Rattle.vectors.specs.Sums.{sum_to, norm2_sq, dot, sum_abs}
use Rattle.differences.specs.Diff.{diff_k, diff_kt}
use Rattle.differences.specs.Series.{Series}
use Rattle.certificate.specs.Certificate.{minus, certify}
use Rattle.certificate.specs.declared.Sums.{Sums}

-- z, after the n places of the trend
abbrev pub dual_of : ℕ → List Float → List Float → List Float
dual_of k y s = part (length y) (length y - k) s

-- D'z, and the trend x = y - D'z
abbrev pub fall_of : ℕ → List Float → List Float → List Float
fall_of k y s = diff_kt k (dual_of k y s)

abbrev pub trend_of : ℕ → List Float → List Float → List Float
trend_of k y s = minus y (fall_of k y s)

-- the places of the trend below `to` are written, and Σ(D'z)² is added up over them; all else is as found
pub record Trend (k : ℕ) (y s₀ s : List Float) (to : ℕ) (squares : Float) : Type 0 where
  pub written : Written 0 to (at (trend_of k y s₀)) s₀ s
  pub squared : squares ≡ sum_to (λ j. at (fall_of k y s₀) j ⊗ at (fall_of k y s₀) j) to

-- and so are Σ|D x| and z·D y, over the places of D x and z that are known then
pub record Passed (k : ℕ) (y dy s₀ s : List Float) (to : ℕ) (c : Sums) : Type 0 where
  pub trend : Trend k y s₀ s to c.squares
  pub jumped : c.dx ≡ sum_to (λ j. abs_of (at (diff_k k (trend_of k y s₀)) j)) (to - k)
  pub multiplied : c.dot ≡ sum_to (λ j. at (dual_of k y s₀) j ⊗ at dy j) (to - k)

-- x1 is the place of x before j, and x2 the one before it where order 2 reads it
pub record Last (k : ℕ) (x : List Float) (j : ℕ) (x1 x2 : Float) : Type 0 where
  pub near : x1 ≡ at x (j - 1)
  pub far : k ≡ 2 → x2 ≡ at x (j - 2)

-- a run of s places has a trend of n and z after it; beside it dy has the places of D y
pub record Beside (k n s dy : ℕ) : Type 0 where
  pub series : Series k n
  pub room : n + (n - k) ≤ s
  pub long : n - k ≤ dy

-- there the places from `from` up to `to` can be passed, the first k being behind
pub record Ahead (k n s dy from to : ℕ) : Type 0 where
  pub beside : Beside k n s dy
  pub after : k ≤ from
  pub order : from ≤ to
  pub within : to ≤ n

-- f gives the places of D'z from `from` up to `to`, where z has m places
pub record Falls {F : Type 0} (c : Shared F (Bor (List Float) × (ℕ × Unit {0})) Float) (f : F) (k m from to : ℕ) : Type 0 where
  pub takes : (z : Bor (List Float)) (j : ℕ) → length z.now ≡ m → from ≤ j → j < to → c.pre f (z, (j, tt))
  pub tells : (z : Bor (List Float)) (j : ℕ) (r : Float) → c.post f (z, (j, tt)) r → length z.now ≡ m → from ≤ j → j < to → r ≡ at (diff_kt k z.now) j

-- the whole trend and its sums; all else is as found
pub record Summed (k : ℕ) (y dy s₀ s : List Float) (c : Sums) : Type 0 where
  pub trend : part 0 (length y) s ≡ trend_of k y s₀
  pub squared : c.squares ≡ norm2_sq (fall_of k y s₀)
  pub jumped : c.dx ≡ sum_abs (diff_k k (trend_of k y s₀))
  pub multiplied : c.dot ≡ dot (dual_of k y s₀) dy
  pub kept : Kept 0 (length y) s₀ s

-- the trend, P, G, and zc at the start of d; all else is as found
pub record Certified (k : ℕ) (y : List Float) (lam : Float) (s₀ s d₀ d : List Float) (primal dual : Float) : Type 0 where
  pub trend : part 0 (length y) s ≡ (certify k y lam (dual_of k y s₀)).trend
  pub primal_is : primal ≡ (certify k y lam (dual_of k y s₀)).primal
  pub dual_is : dual ≡ (certify k y lam (dual_of k y s₀)).dual
  pub zc_is : part 0 (length y - k) d ≡ (certify k y lam (dual_of k y s₀)).zc
  pub kept : Kept 0 (length y) s₀ s
  pub dual_kept : Kept 0 (length y - k) d₀ d
