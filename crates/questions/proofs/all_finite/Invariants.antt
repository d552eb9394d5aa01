use Rattle.std.proofs.Common.{◌≡◌}
use Rattle.questions.specs.Questions.{finite_to}
use Rattle.questions.proofs.all_finite.Given as goal

abbrev pub invariant-loop-x : goal.invariant-loop-x
invariant-loop-x l = l.all ≡ finite_to l.y l.x-index
