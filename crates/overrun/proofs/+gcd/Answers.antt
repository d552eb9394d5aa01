use Rattle.std.proofs.Common.{arith}
use Rattle.overrun.proofs.Fractions.{gcd-zero, gcd-step}
use Rattle.overrun.proofs.+gcd.Goals as goal

pub returns-then-b-eq0 : goal.returns-then-b-eq0
returns-then-b-eq0 t c = omega (arith, gcd-zero c.args.a c.args.b c.if-b-eq0.true)

pub returns-else-b-eq0 : goal.returns-else-b-eq0
returns-else-b-eq0 t c = omega (arith, gcd-step c.args.a c.args.b)
