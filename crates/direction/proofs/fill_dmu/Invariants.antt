use Rattle.std.proofs.Common.{◌≡◌, ◌+◌, ◌-◌, Float}
use Rattle.vectors.specs.Vec.{at}
use Rattle.vectors.specs.Parts.{Kept, Written}
use Rattle.direction.proofs.fill_dmu.Given as goal

abbrev pub invariant-loop-i : goal.invariant-loop-i
invariant-loop-i g l =
    Kept (l.b + l.c) l.i l.initial.s l.s
    × ((f : Float → Float → Float → Float) → ((z mu dz r : Float) → goal.F-post g l.dmu z mu dz r → r ≡ f z mu dz)
    → Written (l.b + l.c) (l.b + l.c + l.i)
    (λ j. let i = j - (l.b + l.c) in f (at l.initial.s i) (at l.initial.s (l.c + i)) (at l.initial.s (l.b + i)))
    l.initial.s l.s)
