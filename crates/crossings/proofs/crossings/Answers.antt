use Rattle.std.proofs.Common.{◌∙◌, sym, ap, arith}
use Rattle.std.specs.Prelude.{Ok}
use Rattle.std.proofs.lemmas.Result.{err_from_is_err_and}
use Rattle.crossings.proofs.Listing.{listed_refused, has_room}
use Rattle.crossings.proofs.crossings.Goals as goal

pub returns-in_err-unlisted : goal.returns-in_err-unlisted
returns-in_err-unlisted c =
    let p = err_from_is_err_and c.from_residual.result c.from_residual.ensures.1 in
    rw (p.1, p.2) (listed_refused _ _ _ _ c.in_err-unlisted.ensures)

pub list_crossings-requires : goal.list_crossings-requires
list_crossings-requires c = has_room _ _ _ (sym c.in_ok-unlisted.ensures)

pub returns : goal.returns
returns c =
    let w = c.list_crossings.ensures in
    record {
      answer = rw (← c.in_ok-unlisted.ensures) (ap Ok (w.next ∙ omega arith));
      list = rw (← c.in_ok-unlisted.ensures) w.text;
    }
