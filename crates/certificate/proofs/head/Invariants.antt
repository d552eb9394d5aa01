use Rattle.certificate.specs.Run.{Trend}
use Rattle.certificate.proofs.head.Given as goal

abbrev pub invariant-loop-j : goal.invariant-loop-j
invariant-loop-j l = Trend l.k l.y l.initial.s l.s l.j l.a
