-- Document 01, "Questions before and during a fit": a refusal as a number, alone and in what a function answers.
use Rattle.std.specs.Prelude.{ℕ, Result, Ok, Err}
use Rattle.questions.specs.declared.Refusal.{Refusal}
use Rattle.questions.specs.declared.Refusal.TheVariants.{UnknownKind, TooShort, TooLong, ValueNotFinite, WrongLam, WrongTol, NoIteration, AnswerRoom, ScratchRoom, BadPivot}

-- that of the question answered no, and 10 for a bad pivot of D D'
abbrev pub refusal_number : Refusal → ℕ
refusal_number UnknownKind = 1
refusal_number TooShort = 2
refusal_number TooLong = 3
refusal_number ValueNotFinite = 4
refusal_number WrongLam = 5
refusal_number WrongTol = 6
refusal_number NoIteration = 7
refusal_number AnswerRoom = 8
refusal_number ScratchRoom = 9
refusal_number BadPivot = 10

-- the refusal's number, and 0 where there is none
abbrev pub refusal_in : {A : Type 0} → Result A Refusal → ℕ
refusal_in (Ok x) = 0
refusal_in (Err r) = refusal_number r

-- the same answer, with the refusal's number in its place
abbrev pub numbered : {A : Type 0} → Result A Refusal → Result A ℕ
numbered (Ok x) = Ok x
numbered (Err r) = Err (refusal_number r)
