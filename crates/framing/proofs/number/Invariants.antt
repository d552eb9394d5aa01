-- The bytes so far, from the last one back, spell n.
use Rattle.std.proofs.Common.{◌≡◌, ◌^◌, ◌<◌, length, map, reverse}
use Rattle.framing.specs.Bytes.{little_endian}
use Rattle.framing.proofs.number.Given as goal

abbrev pub invariant-loop-b : goal.invariant-loop-b
invariant-loop-b g l = record { spells : l.n ≡ little_endian (reverse (map (λ b. b.now) l.yielded)); below : l.n < 256 ^ length l.yielded }
