use Rattle.std.proofs.Common.{◌∙◌, arith, rules}
use Rattle.buffers.specs.Text.{PutsIfRoom}
use Rattle.buffers.proofs.Writing.{puts_if_room, ◌then◌}
use Rattle.report.specs.Lines.{end_line}
use Rattle.report.proofs.Forming.{formed_if_room}
use Rattle.report.proofs.Lines.{end_short}
use Rattle.report.proofs.line.form_end.Goals as goal

pub returns : goal.returns
unfolding end_line
returns c =
    let short = end_short c.args.blocks c.args.paid (search rules) (search rules) in
    let line : PutsIfRoom _ (end_line c.args.blocks c.args.paid) _ =
    rw (c.from.ensures, c.from-2.ensures) at
    (puts_if_room c.put.ensures then c.put_decimal.ensures then c.put-2.ensures then
    c.put_decimal-2.ensures then c.put-3.ensures) in
    let all =
    formed_if_room (search rules) c.new-line.ensures.bytes c.new-line.ensures.length (omega arith) line.written c.length.ensures in
    record { answer = all.0; numbers = all.1.0; bytes = search rules ∙ all.1.1 }
