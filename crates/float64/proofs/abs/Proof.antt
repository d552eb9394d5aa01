-- `float64::abs` meets its contract. Assumes nothing.
use mathlib.Core.Path.{sym, subst}
use lib.Dec.{T}
use lib.Ieee.{binary64, fits}
use Rattle.float64.proofs.Helpers.{abs_kept, abs_turned}
use Rattle.float64.proofs.abs.Statement.{statement}
use Rattle.float64.proofs.abs.Tie as tie

-- what owning an `f64` tells: the format holds it
held : (c : tie.Start) → T (fits binary64 c.args.x)
held c = subst T (sym c.well_formed.0.1) tt

returns : tie.Need-returns-then-n-x
returns c = abs_kept c.before.args.x (held c.before) c.if-n-x.true

returns-2 : tie.Need-returns-else-n-x
returns-2 c = abs_turned c.before.args.x (held c.before) c.if-n-x.false

pub abs_spec : {M : Type 1} → statement M
abs_spec =
    tie.close
    (tie.spec returns returns-2)
