-- What is compared tells whether the product of the two reduced factors is within the limit.
use Rattle.std.proofs.Common.{arith}
use native.Mathlib.Nat.{le_of_lt}
use Prim.Native.Nat.{◌^◌}
use lib.Ieee.{in_float}
use Rattle.framing.proofs.Floats.{leb-T}
use Rattle.overrun.proofs.Fractions.{reduced, gcd-pos}
use Rattle.overrun.proofs.Division.{within, over, divided}
use Rattle.overrun.proofs.quotient.Goals as goal

pub nonzero_div-rest : goal.nonzero_div-rest
nonzero_div-rest c = rw c.gcd-g.ensures (gcd-pos c.args.a c.args.c (omega arith))

pub nonzero_div-left : goal.nonzero_div-left
nonzero_div-left c = (reduced c.args.a c.args.b c.args.c _ _ (omega arith) (omega arith) c.gcd-g.ensures c.gcd-h.ensures).first

pub nonzero_div-right : goal.nonzero_div-right
nonzero_div-right c = (reduced c.args.a c.args.b c.args.c _ _ (omega arith) (omega arith) c.gcd-g.ensures c.gcd-h.ensures).second

pub nonzero_div-right-2 : goal.nonzero_div-right-2
nonzero_div-right-2 c = omega (arith, (reduced c.args.a c.args.b c.args.c _ _ (omega arith) (omega arith) c.gcd-g.ensures c.gcd-h.ensures).right)

pub int_to_float-result : goal.int_to_float-result
unfolding in_float
int_to_float-result c =
    let r = reduced c.args.a c.args.b c.args.c _ _ (omega arith) (omega arith) c.gcd-g.ensures c.gcd-h.ensures in
    leb-T _ (2 ^ 53) (le_of_lt (within r (omega arith)))

pub nonzero_div-result : goal.nonzero_div-result
nonzero_div-result c = (reduced c.args.a c.args.b c.args.c _ _ (omega arith) (omega arith) c.gcd-g.ensures c.gcd-h.ensures).second

pub returns-then-left-right : goal.returns-then-left-right
returns-then-left-right c = over (reduced c.args.a c.args.b c.args.c _ _ (omega arith) (omega arith) c.gcd-g.ensures c.gcd-h.ensures) (omega arith)

pub returns-else-left-right : goal.returns-else-left-right
returns-else-left-right c = divided (reduced c.args.a c.args.b c.args.c _ _ (omega arith) (omega arith) c.gcd-g.ensures c.gcd-h.ensures) (omega arith) (omega arith)
