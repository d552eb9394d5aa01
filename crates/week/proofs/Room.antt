-- The buffers of the weekly program are enough for every week. Assumes nothing.
use mathlib.Core.Bool.{Bool, true, false, cond}
use Prim.Native.Nat.{◌*◌, ◌≤◌}
use native.Mathlib.Omega.{arith}
use borrow.Author.Tests.{le-leb}
use lib.Dec.{eqb}
use lib.ListN.{length}
use Rattle.questions.specs.Questions.{room}
use Rattle.week.specs.Room.{WeekRoom}

pub week_room : WeekRoom
unfolding room
week_room st y h =
    let n = length y in
    rw (le-leb n 168 (omega arith), le-leb (cond (eqb st.penalty 2) (16 * n) (40 * n)) 6720 (work (eqb st.penalty 2)), le-leb (cond (eqb st.penalty 2) 0 (2 * n)) 336 (marks (eqb st.penalty 2)))
  where
    work : (p : Bool) → cond p (16 * length y) (40 * length y) ≤ 6720
    work true = omega arith
    work false = omega arith

    marks : (p : Bool) → cond p 0 (2 * length y) ≤ 336
    marks true = omega arith
    marks false = omega arith
