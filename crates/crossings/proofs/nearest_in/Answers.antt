use Rattle.std.proofs.Common.{◌≡◌, ◌∙◌, rules}
use Rattle.std.specs.List.{reduce}
use Rattle.crossings.specs.Nearest.{nearer}
use Rattle.crossings.proofs.Nearest.{nearest_reduce}
use Rattle.crossings.proofs.nearest_in.Goals as goal

pub returns : goal.returns
returns c = let e : c.reduce.result ≡ reduce (nearer c.args.place) c.args.knots.now = search rules in e ∙ nearest_reduce c.args.place c.args.knots.now
