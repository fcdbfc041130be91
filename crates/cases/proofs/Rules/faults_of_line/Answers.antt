-- The check alone does not find that a line of zeros breaks nothing.
use Rattle.std.proofs.Common.{sym, ◌∙◌, arith}
use Rattle.cases.proofs.PastCount.{zero_faults}
use Rattle.cases.proofs.Rules.faults_of_line.Goals as goal

pub returns-else-filled : goal.returns-else-filled
returns-else-filled c =
    let args = c.args in
    let zero = c.if-filled.false in
    let none = zero_faults args.self.now args.count args.place args.line.now args.flags (omega arith) (sym c.is_filled-filled.ensures ∙ zero) in
    rw (zero, none.0, none.1)
