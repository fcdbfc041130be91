use Rattle.std.proofs.Common.{◌∙◌, arith, rules}
use Rattle.buffers.specs.Text.{PutsIfRoom}
use Rattle.buffers.proofs.Writing.{puts_if_room, then_puts, ◌then◌}
use Rattle.report.specs.Lines.{line_of}
use Rattle.report.proofs.Forming.{formed_if_room}
use Rattle.report.proofs.Lines.{SizedOutcome, line_short}
use Rattle.report.proofs.line.form_line.Goals as goal

pub returns : goal.returns
unfolding line_of
returns c =
    let sized : SizedOutcome c.args.answer.outcome = search rules in
    let short = line_short c.args.place c.args.answer (search rules) (search rules) sized in
    let line : PutsIfRoom _ (line_of c.args.place c.args.answer) _ =
    rw (c.from.ensures, c.from-2.ensures) at
    (then_puts c.put_outcome.ensures (puts_if_room c.put_decimal.ensures then c.put.ensures then c.put_decimal-2.ensures)) in
    let all =
    formed_if_room (search rules) c.new-line.ensures.bytes c.new-line.ensures.length (omega arith) line.written c.length.ensures in
    record { answer = all.0; numbers = all.1.0; bytes = search rules ∙ all.1.1 }
