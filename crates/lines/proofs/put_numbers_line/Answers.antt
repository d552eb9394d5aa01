use Rattle.lines.specs.Lines.{numbers_line}
use Rattle.fields.proofs.Writers.{puts_then}
use Rattle.lines.proofs.put_numbers_line.Goals as goal

pub returns : goal.returns
unfolding numbers_line
returns c = puts_then (puts_then (puts_then c.put_hex-a1.ensures c.put_hex_field-a2.ensures) c.put_hex_field-a3.ensures) c.put_byte.ensures
