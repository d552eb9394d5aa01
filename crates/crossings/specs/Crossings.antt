-- Document 02, A9, "Where the trend passes a mark": the crossings of a level, and what a call that lists them answers and leaves in the list lent to it.
use Rattle.std.specs.Prelude.{◌≡◌, Bool, cond, ◌&&◌, ◌||◌, List, ℕ, ◌+◌, ◌-◌, leb, eqb, length, Float, Result, Ok, Err}
use Rattle.std.specs.Float.Ieee.{lt, le}
use Rattle.float64.specs.Helpers.{is_finite}
use Rattle.vectors.specs.Vec.{at, places_to, put}
use Rattle.questions.specs.Questions.{ask}

-- a is at or below the level, and b above it; a NaN is neither
abbrev pub upward : Float → Float → Float → Bool
upward level a b = le a level && lt level b

-- a is above the level, and b at or below it
abbrev pub downward : Float → Float → Float → Bool
downward level a b = lt level a && le b level

-- whether the trend t passes the level upward between the places i and i + 1
abbrev pub rises_at : Float → List Float → ℕ → Bool
rises_at level t i = upward level (at t i) (at t (i + 1))

-- whether it does downward
abbrev pub falls_at : Float → List Float → ℕ → Bool
falls_at level t i = downward level (at t i) (at t (i + 1))

-- whether it does one or the other
abbrev pub crosses_at : Float → List Float → ℕ → Bool
crosses_at level t i = rises_at level t i || falls_at level t i

-- the crossings: the i with i + 1 below n, the length of t, rising, at which it passes the level
unfoldable pub crossings : Float → List Float → List ℕ
crossings level t = places_to (crosses_at level t) (length t - 1)

-- the first question answered no, and 0 where none is. 18: is the level finite? 19: is n at most 65,536, and has the list at least n places?
unfoldable pub unlisted : Float → ℕ → ℕ → ℕ
unlisted level n places = ask 18 (is_finite level) (ask 19 (leb n 65536 && leb n places) 0)

-- the whole of a call: r the answer, b what the list held before and c after
pub record CrossingsListed (level : Float) (t : List Float) (r : Result ℕ ℕ) (b c : List ℕ) : Type 0 where
  -- how many crossings there are, or the refusal's number
  pub answer : let q = unlisted level (length t) (length b) in r ≡ cond (eqb q 0) (Ok (length (crossings level t))) (Err q)
  -- the crossings in its first places and all others as found; after a refusal all of it is as found
  pub list : let q = unlisted level (length t) (length b) in c ≡ cond (eqb q 0) (put b 0 (crossings level t)) b
