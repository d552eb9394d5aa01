-- Euclid's measure is b, which falls to the remainder.
use Rattle.overrun.proofs.+gcd.Given as goal

abbrev pub decreases-gcd : goal.decreases-gcd
decreases-gcd l = l.b
