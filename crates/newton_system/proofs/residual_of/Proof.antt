use mathlib.Core.Path.{refl}
use Rattle.newton_system.specs.Newton.{residual_square_at}
use Rattle.newton_system.proofs.residual_of.Statement.{statement}
use Rattle.newton_system.proofs.residual_of.Tie as tie

returns : tie.Need-returns
unfolding residual_square_at
returns c = refl

pub residual_of_spec : {M : Type 1} → statement M
residual_of_spec =
    tie.close
    (tie.spec returns)
