use mathlib.Core.Path.{refl}
use Rattle.newton_system.specs.Newton.{rhs_at}
use Rattle.newton_system.proofs.rhs_of.Statement.{statement}
use Rattle.newton_system.proofs.rhs_of.Tie as tie

returns : tie.Need-returns
unfolding rhs_at
returns c = λ mu1 mu2. refl

pub rhs_of_spec : {M : Type 1} → statement M
rhs_of_spec =
    tie.close
    (tie.spec returns)
