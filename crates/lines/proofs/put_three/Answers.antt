use Rattle.lines.specs.Lines.{three}
use Rattle.fields.proofs.Writers.{puts_then}
use Rattle.lines.proofs.put_three.Goals as goal

pub returns : goal.returns
unfolding three
returns c = puts_then (puts_then c.put_field-a1.ensures c.put_field-a2.ensures) c.put_field.ensures
