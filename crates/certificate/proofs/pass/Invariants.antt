use Rattle.std.proofs.Common.{◌≡◌, List, length, Float}
use Rattle.certificate.specs.Run.{trend_of, Passed, Last}
use Rattle.certificate.proofs.pass.Given as goal

-- the room for z, and the sums so far, if they were right at the start
abbrev pub invariant-loop-j : goal.invariant-loop-j
invariant-loop-j g l =
    (length l.s ≡ length l.initial.s)
    × ((s₀ : List Float) → Passed l.k l.y l.dy s₀ l.initial.s l.from (record { squares = l.initial.a; dx = l.initial.b; dot = l.initial.g })
    → Passed l.k l.y l.dy s₀ l.s l.j (record { squares = l.a; dx = l.b; dot = l.g }) × Last l.k (trend_of l.k l.y s₀) l.j l.x1 l.x2)
