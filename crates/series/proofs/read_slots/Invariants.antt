use Rattle.std.proofs.Common.{◌-◌, length}
use Rattle.series.specs.Inner.{slots_in}
use Rattle.series.proofs.Gathering.{Slotted}
use Rattle.series.proofs.read_slots.Given as goal

abbrev pub invariant-loop-r : goal.invariant-loop-r
invariant-loop-r l = Slotted l.s l.at (slots_in l.initial.slots) (slots_in l.slots) l.n l.named l.rated

abbrev pub decreases-loop-r : goal.decreases-loop-r
decreases-loop-r l = length l.s - l.at
