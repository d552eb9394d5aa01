-- What a path asks and what it leaves. n is the length of the series, l the places that the path takes behind the preparation. For the contracts between our own crates.
use Rattle.std.specs.Prelude.{◌≡◌, List, ℕ, ◌+◌, ◌-◌, ◌≤◌, length, take, Float}
use Rattle.std.specs.Prelude as code
use Rattle.std.proofs.Math.Option.{Option, none}
use Rattle.vectors.specs.Parts.{Kept, part}
use Rattle.differences.specs.Diff.{diff_k, gram_row}
use Rattle.differences.specs.Series.{Series}
use Rattle.gram.specs.Gram.{zstar, lam_max}
use Rattle.gram.specs.Prepared.{star_lane, diff_lane, preparation}
use Rattle.fit.specs.Fit.{Found}
use Rattle.closed_paths.specs.declared.Finding.{Finding}
use Rattle.closed_paths.specs.Trends.{path_area, path_marks, reach, found_of, said, reached}

-- ---- what is asked

-- L2 asks a series, and l places behind the preparation in a run of w
pub record AsksL2 (k l n w : ℕ) : Type 0 where
  pub series : Series k n
  pub work : preparation n + l ≤ w

-- L1 asks too that y is prepared at the start of w, and room for D y in c
pub record AsksL1 (k l : ℕ) (y w c : List Float) : Type 0 where
  pub room : AsksL2 k l (length y) (length w)
  pub cycle : length y ≤ length c
  pub star : part (star_lane k (length y)) (length y - k) w ≡ zstar k (gram_row k) (length y - k) y
  pub differences : part (diff_lane (length y)) (length y - k) w ≡ diff_k k y

-- the search asks too room for the dual point in d places, and for q marks
pub record AsksSearch (k l q : ℕ) (y w c : List Float) (d : ℕ) (marks : List ℕ) : Type 0 where
  pub l1 : AsksL1 k l y w c
  pub dual : length y - k ≤ d
  pub marked : q ≤ length marks

-- the choice of a path asks this of its penalty's area and marks, and that top is lam_max
pub record AsksPath (k penalty : ℕ) (y : List Float) (top : Float) (w c : List Float) (d : ℕ) (marks : List ℕ) : Type 0 where
  pub search : AsksSearch k (path_area penalty (length y)) (path_marks penalty (length y)) y w c d marks
  pub top_is : top ≡ lam_max k (gram_row k) (length y - k) y

-- ---- what is left

-- c begins with D y; behind its first n places it is as found
pub record Differences (k : ℕ) (y c₀ c : List Float) : Type 0 where
  pub known : take (length y - k) c ≡ diff_k k y
  pub kept : Kept 0 (length y) c₀ c

-- what may have changed: the l places of work behind the preparation, the first n of cycle, and the first n - k of dual
pub record Changed (k l n : ℕ) (w₀ w c₀ c d₀ d : List Float) : Type 0 where
  pub work : Kept (preparation n) l w₀ w
  pub cycle : Kept 0 n c₀ c
  pub dual : Kept 0 (n - k) d₀ d

-- r is what f says, for each i of what the path doesn't read
pub record Finds {I : Type 0} (f : I → Found) (k l : ℕ) (y w₀ w c₀ c d₀ d : List Float) (r : Finding) : Type 0 where
  pub says : (i : I) → found_of k y w d r ≡ f i
  pub stands : reach r.trend (length y) ≤ length w
  pub changed : Changed k l (length y) w₀ w c₀ c d₀ d

-- a path answered r: where it is lost, cycle and dual are as found
pub record Took (f : Option Found) (k l : ℕ) (y w₀ w c₀ c d₀ d : List Float) (r : code.Option Finding) : Type 0 where
  pub says : said k y w d r ≡ f
  pub stands : reached r (length y) ≤ length w
  pub lost : f ≡ none → (c ≡ c₀) × (d ≡ d₀)
  pub changed : Changed k l (length y) w₀ w c₀ c d₀ d
