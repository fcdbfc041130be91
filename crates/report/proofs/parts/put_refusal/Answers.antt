use Rattle.buffers.proofs.Writing.{puts_if_room, ◌then◌}
use Rattle.report.specs.Lines.{refused_text}
use Rattle.report.proofs.parts.put_refusal.Goals as goal

pub returns : goal.returns
unfolding refused_text
returns c =
    rw (c.from.ensures, c.number.ensures, c.as_bytes.ensures.value, c.name.ensures) at
    (puts_if_room c.put.ensures then c.put_decimal.ensures then c.put-2.ensures then c.put-3.ensures then c.put-4.ensures)
