use Rattle.std.proofs.Common.{◌≡◌, ◌≤◌, ◌-◌, ◌+◌, length, false, cond}
use Rattle.std.specs.Io.KnownBytes.{IsAtEnd}
use Rattle.streams.proofs.read_whole.Given as goal

abbrev pub invariant-loop-done : goal.invariant-loop-done
invariant-loop-done g l = (l.done.bytes ≤ length l.buf) × (l.done.more ≡ false → IsAtEnd (g.R.Read.remaining l.input))

-- the call that finds the end brings no byte
abbrev pub decreases-loop-done : goal.decreases-loop-done
decreases-loop-done g l = length l.initial.buf - l.done.bytes + cond l.done.more 1 0
