use Rattle.std.proofs.Common.{◌≡◌, false}
use Rattle.std.specs.Float.Ieee.{is_nan}
use Rattle.dual_point.specs.Places.{point}
use Rattle.direction.specs.Direction.{step_cap_to}
use Rattle.direction.specs.Places.{Edge}
use Rattle.direction.proofs.cap.Given as goal

abbrev pub invariant-loop-i : goal.invariant-loop-i
invariant-loop-i l =
    (l.c.step ≡ step_cap_to (point 0 l.m l.s) (point l.b l.m l.s) l.i) × (is_nan l.c.step ≡ false) × Edge l.c.step l.c.edge
