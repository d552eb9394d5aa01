use mathlib.Core.Path.{ap, ◌∙◌}
use lib.Ieee.{binary64, of_bits}
use borrow.Author.Rules.{rules}
use Rattle.rerun.proofs.double_at.Statement.{statement}
use Rattle.rerun.proofs.double_at.Tie as tie

returns : tie.Need-returns
returns c = c.double.ensures ∙ ap (of_bits binary64) c.before.word.ensures

pub double_at_spec : {M : Type 1} → statement M
double_at_spec =
    tie.close
    (tie.spec (λ c κs. search rules) (λ c κs. search rules) returns)
