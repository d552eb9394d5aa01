use mathlib.Core.Path.{refl}
use Rattle.newton_system.specs.Newton.{diagonal_shift}
use Rattle.newton_system.proofs.diagonal_of.Statement.{statement}
use Rattle.newton_system.proofs.diagonal_of.Tie as tie

returns : tie.Need-returns
unfolding diagonal_shift
returns c = refl

pub diagonal_of_spec : {M : Type 1} → statement M
diagonal_of_spec =
    tie.close
    (tie.spec returns)
