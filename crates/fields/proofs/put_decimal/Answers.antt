use Rattle.std.proofs.Common.{◌∙◌, arith}
use Rattle.fields.specs.Fields.{decimal}
use Rattle.fields.proofs.Decimals.{fewest_decimal}
use Rattle.fields.proofs.put_decimal.Goals as goal

pub returns : goal.returns
unfolding decimal
returns c =
    let e = c.decimal-k.ensures in
    let w = c.put_all.ensures.wrote in
    record { wrote = rw (e.digits ∙ fewest_decimal 19 _ c.args.n (omega (arith, c.ranges.n)) e.len) at w; short = omega (arith, w.next, e.in_bounds) }
