-- What a polish asks, and what it leaves in the runs lent to it. For the contracts between our own crates.
use Rattle.std.specs.Prelude.{◌≡◌, Bool, true, false, cond, ◌&&◌, List, ℕ, ◌+◌, ◌-◌, ◌*◌, ◌≤◌, length, Float}
use Rattle.std.specs.Prelude.{is_some as there_is}
use Rattle.std.specs.Prelude as code
use Rattle.std.proofs.Math.Option.{Option, none, some}
use Rattle.std.specs.Float.Ieee.{lt}
use Rattle.float64.specs.Helpers.{is_finite}
use Rattle.vectors.specs.Vec.{KeptOf}
use Rattle.vectors.specs.Parts.{Kept, part}
use Rattle.differences.specs.Diff.{diff_k, gram_row}
use Rattle.certificate.specs.Certificate.{certify, gap_of}
use Rattle.certificate.specs.Ready.{Ready}
use Rattle.dual_point.specs.Places.{point}
use Rattle.dual_point.specs.Lanes.{settle_lane, candidate_trend, candidate_lane, polish_area, search_area}
use Rattle.active_set.specs.declared.Hold.{Hold}
use Rattle.active_set.specs.Marks.{Marks}
use Rattle.polish.specs.Polish.{candidate, polish}
use Rattle.polish.specs.declared.Candidate.{Candidate}

-- the candidate that stands in x, if it is there
abbrev pub found : Bool → List Float → Option (List Float)
found there x = cond there (some x) none

-- m places of a candidate from a on, after those of the solution from b on; the marks of m places from n on
pub record Fillable (n m b a places marks : ℕ) : Type 0 where
  pub marked : n + m ≤ marks
  pub apart : b + m ≤ a
  pub room : a + m ≤ places

-- Whatever h the marks v of a series of n tell: the candidate in its lane, if it is there.
pub record Made (k n : ℕ) (dy : List Float) (lam : Float) (v : List ℕ) (q : ℕ) (s₀ s : List Float) (there : Bool) : Type 0 where
  pub found_is : (h : ℕ → Hold) → Marks h n (n - k) v q → candidate k (gram_row k) dy lam h (n - k) ≡ found there (part (candidate_lane n) (n - k) s)
  pub kept : Kept (settle_lane n) (polish_area n) s₀ s

-- ---- a polish for the series y, from a run w₀ = trend, z, mu1, mu2

pub record Polishable (k : ℕ) (y dy : List Float) (places dual marks : ℕ) : Type 0 where
  pub ready : Ready k y dy (search_area (length y)) places
  pub room : length y - k ≤ dual
  pub marked : 2 * length y ≤ marks

abbrev pub polish_from : ℕ → List Float → Float → List Float → Option (List Float)
polish_from k y lam w₀ = polish k (gram_row k) (diff_k k y) lam (point (length y) (length y - k) w₀)

abbrev pub is_some : Option (List Float) → Bool
is_some none = false
is_some (some z) = true

-- c has the gap and P of the certificate at z, the run w its trend in the lane for it, and d the clamped z
pub record Rated (k : ℕ) (y : List Float) (lam : Float) (w d z : List Float) (c : Candidate) : Type 0 where
  pub gap : c.gap ≡ gap_of (certify k y lam z)
  pub primal : c.primal ≡ (certify k y lam z).primal
  pub trend : part (candidate_trend (length y)) (length y) w ≡ (certify k y lam z).trend
  pub dual : part 0 (length y - k) d ≡ (certify k y lam z).zc

-- r is there if there is a candidate; if so it is its certificate's, and else d is as found. Only the polish's lanes, the first m places of d and the first 2 n marks may have changed.
pub record Polished (k : ℕ) (y : List Float) (lam : Float) (w₀ w d₀ d : List Float) (v₀ v : List ℕ) (r : code.Option Candidate) : Type 0 where
  pub there : there_is r ≡ is_some (polish_from k y lam w₀)
  pub rated : (z : List Float) → polish_from k y lam w₀ ≡ some z → (c : Candidate) → r ≡ code.Some c → Rated k y lam w d z c
  pub kept : Kept (settle_lane (length y)) (polish_area (length y)) w₀ w
  pub none_there : polish_from k y lam w₀ ≡ none → d ≡ d₀
  pub dual : Kept 0 (length y - k) d₀ d
  pub marks : KeptOf 0 0 (2 * length y) v₀ v

-- there is a candidate, its gap is finite and strictly smaller
abbrev pub wins : code.Option Candidate → Float → Bool
wins code.None gap = false
wins (code.Some c) gap = is_finite c.gap && lt c.gap gap
