use Rattle.banded.specs.Layout.{Laid}
use Rattle.gram.specs.Gram.{gram}
use Rattle.gram.proofs.fill_gram.Given as goal

abbrev pub invariant-loop-r : goal.invariant-loop-r
invariant-loop-r l = Laid l.k l.r (gram l.k l.g) l.initial.s l.s
