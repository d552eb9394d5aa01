use Rattle.std.proofs.Common.{arith, refl}
use Rattle.week.proofs.Showing.{fits-lent, fit_listed, fit_refused}
use Rattle.week.proofs.fit_week.Goals as goal

pub put_listing-requires-clause-n_bound : goal.put_listing-requires-clause-n_bound
put_listing-requires-clause-n_bound c =
    let f = fits-lent c.args.st c.args.y.now _ c.in-Ok.ensures.gives refl in
    let w = fit_listed f c.args.positions.now c.requires.1 refl in
    rw c.shown-f.ensures (c.requires.0, omega (arith, w.few, c.requires.0))

pub put_listing-requires-clause-n_in_bounds : goal.put_listing-requires-clause-n_in_bounds
put_listing-requires-clause-n_in_bounds c =
    let f = fits-lent c.args.st c.args.y.now _ c.in-Ok.ensures.gives refl in
    let w = fit_listed f c.args.positions.now c.requires.1 refl in
    rw c.shown-f.ensures (omega (arith, c.requires.1), w.below)

pub returns-in-Err : goal.returns-in-Err
returns-in-Err c =
    let f = fits-lent c.args.st c.args.y.now _ c.in-Err.ensures.gives refl in
    rw (fit_refused f c.args.positions.now refl, ← c.from.ensures) c.put_refused.ensures

pub returns-in-Ok : goal.returns-in-Ok
returns-in-Ok c =
    let f = fits-lent c.args.st c.args.y.now _ c.in-Ok.ensures.gives refl in
    rw ((fit_listed f c.args.positions.now c.requires.1 refl).text, ← c.shown-f.ensures) c.put_listing.ensures
