-- Document 02, A9, "Where the trend passes a mark": what a reader asks of the crossings (`Rattle.crossings.proofs.Passing` proves it).
use Rattle.std.specs.Prelude.{◌≡◌, ◌⊎◌, true, false, List, [], ℕ, ◌+◌, ◌<◌, length, get_or, Float}
use Rattle.std.specs.Float.Ieee.{lt, le, is_nan}
use Rattle.float64.specs.Helpers.{is_finite}
use Rattle.vectors.specs.Vec.{at}
use Rattle.vectors.specs.Rising.{Rising, Among}
use Rattle.crossings.specs.Crossings.{rises_at, falls_at, crosses_at, crossings}

-- every place listed is a crossing, every crossing is listed, and they rise strictly; for any level and any trend
pub record JustTheCrossings (level : Float) (t : List Float) : Type 0 where
  pub each : (i : ℕ) → Among i (crossings level t) → (i + 1 < length t) × (crosses_at level t i ≡ true)
  pub all : (i : ℕ) → i + 1 < length t → crosses_at level t i ≡ true → Among i (crossings level t)
  pub rising : Rising (length t) (crossings level t)

-- the trend has no NaN
abbrev pub NoNaN : List Float → Type 0
NoNaN t = (i : ℕ) → i < length t → is_nan (at t i) ≡ false

-- place j of the list, from 0
abbrev pub crossing : Float → List Float → ℕ → ℕ
crossing level t j = get_or (crossings level t) j 0

-- for a finite level and a trend with no NaN:
pub record PassesInTurn (level : Float) (t : List Float) : Type 0 where
  -- in the list an upward crossing is followed by a downward one, and a downward one by an upward one
  pub after_up : (j : ℕ) → j + 1 < length (crossings level t) → rises_at level t (crossing level t j) ≡ true → falls_at level t (crossing level t (j + 1)) ≡ true
  pub after_down : (j : ℕ) → j + 1 < length (crossings level t) → falls_at level t (crossing level t j) ≡ true → rises_at level t (crossing level t (j + 1)) ≡ true
  -- with no crossing the whole trend is at or below the level, or all of it above
  pub one_side : crossings level t ≡ [] → ((i : ℕ) → i < length t → le (at t i) level ≡ true) ⊎ ((i : ℕ) → i < length t → lt level (at t i) ≡ true)

-- what is proved, for every level and every trend
abbrev pub Passing : Type 0
Passing = (level : Float) (t : List Float) → JustTheCrossings level t × (is_finite level ≡ true → NoNaN t → PassesInTurn level t)
