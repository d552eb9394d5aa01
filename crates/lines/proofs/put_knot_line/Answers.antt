use Rattle.lines.specs.Lines.{knot_line}
use Rattle.fields.proofs.Writers.{puts_then}
use Rattle.lines.proofs.put_knot_line.Goals as goal

pub returns : goal.returns
unfolding knot_line
returns c = puts_then (puts_then c.put_all-a1.ensures c.put_field-a2.ensures) c.put_byte.ensures
