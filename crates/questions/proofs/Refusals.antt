-- A refusal's number is not 0. Assumes nothing.
use Rattle.std.proofs.Common.{◌≡◌, refl, false, eqb}
use Rattle.questions.specs.declared.Refusal.{Refusal}
use Rattle.questions.specs.declared.Refusal.TheVariants.{UnknownKind, TooShort, TooLong, ValueNotFinite, WrongLam, WrongTol, NoIteration, AnswerRoom, ScratchRoom, BadPivot}
use Rattle.questions.specs.Refusals.{refusal_number}

pub number_not_0 : (r : Refusal) → eqb (refusal_number r) 0 ≡ false
number_not_0 UnknownKind = refl
number_not_0 TooShort = refl
number_not_0 TooLong = refl
number_not_0 ValueNotFinite = refl
number_not_0 WrongLam = refl
number_not_0 WrongTol = refl
number_not_0 NoIteration = refl
number_not_0 AnswerRoom = refl
number_not_0 ScratchRoom = refl
number_not_0 BadPivot = refl
