use Rattle.std.proofs.Common.{rules}
use Rattle.buffers.proofs.Writing.{puts_if_room, then_puts}
use Rattle.report.specs.Lines.{paid_text}
use Rattle.report.proofs.parts.put_items.Goals as goal

pub returns : goal.returns
unfolding paid_text
returns c = search (rules, puts_if_room, then_puts) depth 20
