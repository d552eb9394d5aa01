use lib.Dec.{T}
use lib.Ieee.{binary64, fits}
use Rattle.elimination.proofs.Pivots.{above_0, not_above_0}
use mathlib.Core.Path.{sym, subst, ◌∙◌}
use Rattle.elimination.proofs.is_good.Statement.{statement}
use Rattle.elimination.proofs.is_good.Tie as tie

-- what owning an `f64` tells: the format holds it
held : (c : tie.Start) → T (fits binary64 c.args.x)
held c = subst T (sym c.well_formed.0.1) tt

returns : tie.Need-returns-then-x
returns c = above_0 c.before.args.x (held c.before) c.if-x.true

returns-2 : tie.Need-returns-else-x
returns-2 c = c.if-x.false ∙ sym (not_above_0 c.before.args.x c.if-x.false)

pub is_good_spec : {M : Type 1} → statement M
is_good_spec =
    tie.close
    (tie.spec returns returns-2)
