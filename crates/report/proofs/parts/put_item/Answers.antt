use Rattle.buffers.proofs.Writing.{puts_if_room, ◌then◌}
use Rattle.report.proofs.parts.put_item.Goals as goal

pub returns : goal.returns
returns c = puts_if_room c.put.ensures then c.put_fixed_point.ensures
