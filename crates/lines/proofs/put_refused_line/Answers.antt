use Rattle.lines.specs.Lines.{refused_line}
use Rattle.fields.proofs.Writers.{puts_then}
use Rattle.lines.proofs.put_refused_line.Goals as goal

pub returns : goal.returns
unfolding refused_line
returns c = puts_then (puts_then c.put_all-a1.ensures c.put_field-a2.ensures) c.put_byte.ensures
