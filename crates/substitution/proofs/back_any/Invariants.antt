use Rattle.std.proofs.Common.{◌-◌, ◌≤◌}
use Rattle.substitution.specs.Solved.{Carried}
use Rattle.substitution.proofs.back_any.Given as goal

abbrev pub invariant-loop-i : goal.invariant-loop-i
invariant-loop-i l = (l.i-start ≤ l.i) × Carried l.k l.m l.from (l.m - l.i) l.initial.s l.s
