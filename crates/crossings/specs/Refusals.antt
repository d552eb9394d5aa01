-- Document 02, A9, "Where the trend passes a mark": a refusal as a number, alone and in what a function answers.
use Rattle.std.specs.Prelude.{ℕ, Result, Ok, Err}
use Rattle.crossings.specs.declared.Refusal.{Refusal}
use Rattle.crossings.specs.declared.Refusal.TheVariants.{LevelNotFinite, WrongSize}

-- 18 for a level that is not finite, 19 for sizes that do not fit
abbrev pub refusal_number : Refusal → ℕ
refusal_number LevelNotFinite = 18
refusal_number WrongSize = 19

-- the refusal's number, and 0 where there is none
abbrev pub refusal_in : {A : Type 0} → Result A Refusal → ℕ
refusal_in (Ok x) = 0
refusal_in (Err r) = refusal_number r

-- the same answer, with the refusal's number in its place
abbrev pub numbered : {A : Type 0} → Result A Refusal → Result A ℕ
numbered (Ok x) = Ok x
numbered (Err r) = Err (refusal_number r)
