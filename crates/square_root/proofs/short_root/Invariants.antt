use Rattle.square_root.proofs.Counter.{Counter}
use Rattle.square_root.proofs.Newton.{Digits}
use Rattle.square_root.proofs.short_root.Given as goal

-- the count of the digits to come never passes 64, and those found so far are the root's
abbrev pub invariant-loop-j : goal.invariant-loop-j
invariant-loop-j l = record { counted : Counter l.j; found : Digits l.h l.root l.j }
