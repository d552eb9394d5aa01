use Rattle.std.proofs.Common.{◌≡◌, Bool, true, false, cond, refl, ◌∙◌}
use Rattle.std.specs.Int.{from_bool}
use Rattle.lines.specs.Lines.{fit_line}
use Rattle.fields.proofs.Writers.{puts_then}
use Rattle.listing.specs.Shown.{shown_line}
use Rattle.listing.proofs.put_fit_line.Goals as goal

one_if : (b : Bool) → from_bool b ≡ cond b 1 0
one_if true = refl
one_if false = refl

pub returns : goal.returns
unfolding shown_line fit_line
returns c =
    let converged : c.from-3.result ≡ cond c.args.f.converged 1 0 = c.from-3.ensures ∙ one_if c.args.f.converged in
    let numbers = puts_then (puts_then c.put_three-a2.ensures c.put_three-a3.ensures) c.put_field-a4.ensures in
    rw (c.from.ensures, c.from-2.ensures, converged, c.from-4.ensures) at (puts_then (puts_then c.put_all-a1.ensures numbers) c.put_byte.ensures)
