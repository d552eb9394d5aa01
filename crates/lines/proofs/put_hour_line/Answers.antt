use Rattle.lines.specs.Lines.{hour_line}
use Rattle.fields.proofs.Writers.{puts_then}
use Rattle.lines.proofs.put_hour_line.Goals as goal

pub returns : goal.returns
unfolding hour_line
returns c = puts_then (puts_then (puts_then (puts_then c.put_byte-a1.ensures c.put_field-a2.ensures) c.put_hex_field-a3.ensures) c.put_hex_field-a4.ensures) c.put_byte.ensures
