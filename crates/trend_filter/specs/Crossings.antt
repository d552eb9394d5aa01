-- Document 02, A9, for a caller in C: where the trend passes a mark, as a number, a list and how many it has; the knot nearest a place, as a number and two more.
use Rattle.std.specs.Prelude.{List, [], ◌∷◌, ℕ, Float, Option, Some, None, Result, Ok, Err}
use Rattle.crossings.specs.Crossings.{CrossingsListed}
use Rattle.trend_filter.specs.Told.{ToldBy}

-- 0 for a list, else the refusal's number
abbrev pub listed_code : Result ℕ ℕ → ℕ
listed_code (Ok n) = 0
listed_code (Err q) = q

-- what an array that held v holds afterwards: how many are listed, or as found after a refusal
abbrev pub listed_in : Result ℕ ℕ → List ℕ → List ℕ
listed_in (Ok n) v = n ∷ []
listed_in (Err q) v = v

-- the whole of a call: an answer with all its promises, and how it is told
pub record CrossingsTold (level : Float) (t : List Float) (r : ℕ) (b c v₀ v : List ℕ) : Type 0 where
  pub answer : Result ℕ ℕ
  pub listed : CrossingsListed level t answer b c
  pub told : ToldBy listed_code listed_in answer r v₀ v

-- 0 for a knot and where there is none, else the refusal's number
abbrev pub knot_code : Result (Option ℕ) ℕ → ℕ
knot_code (Ok (Some k)) = 0
knot_code (Ok None) = 0
knot_code (Err q) = q

-- what an array that held v holds afterwards: 1 and the knot, 0 and 0 where there is none, or as found after a refusal
abbrev pub knot_in : Result (Option ℕ) ℕ → List ℕ → List ℕ
knot_in (Ok (Some k)) v = 1 ∷ k ∷ []
knot_in (Ok None) v = 0 ∷ 0 ∷ []
knot_in (Err q) v = v

-- the answer s as a caller in C is told it
abbrev pub KnotTold : Result (Option ℕ) ℕ → ℕ → List ℕ → List ℕ → Type 0
KnotTold s r v₀ v = ToldBy knot_code knot_in s r v₀ v
