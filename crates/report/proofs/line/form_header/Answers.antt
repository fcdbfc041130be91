use Rattle.std.proofs.Common.{◌∙◌, arith, rules}
use Rattle.buffers.proofs.Writing.{puts_if_room}
use Rattle.report.proofs.Forming.{formed_if_room}
use Rattle.report.proofs.line.form_header.Goals as goal

pub returns : goal.returns
returns c =
    let all = formed_if_room (search rules) c.new-line.ensures.bytes c.new-line.ensures.length (omega arith) (puts_if_room c.put.ensures).written c.length.ensures in
    record { answer = all.0; numbers = all.1.0; bytes = search rules ∙ all.1.1 }
