use Rattle.fields.proofs.Writers.{puts_then}
use Rattle.listing.specs.Shown.{shown_listing}
use Rattle.listing.proofs.put_listing.Goals as goal

pub returns : goal.returns
unfolding shown_listing
returns c =
    (puts_then (puts_then (puts_then c.put_fit_line-a1.ensures c.put_numbers_line-a2.ensures) c.put_hours-a3.ensures) c.put_knots.ensures).wrote
