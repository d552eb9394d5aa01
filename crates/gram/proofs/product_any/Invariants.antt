use Rattle.std.proofs.Common.{◌≡◌, ◌-◌}
use Rattle.float64.specs.Ops.{◌⊗◌, c0}
use Rattle.vectors.specs.Vec.{at, apart}
use Rattle.vectors.specs.Sums.{more_from}
use Rattle.gram.proofs.product_any.Given as goal

abbrev pub invariant-loop-j : goal.invariant-loop-j
invariant-loop-j l = l.v ≡ more_from c0 (λ j. at l.g (apart l.i j) ⊗ at l.z j) (l.i - l.k) l.j
