use Rattle.std.proofs.Common.{rules}
use Rattle.runs.proofs.Forming.{line_written}
use Rattle.runs.proofs.line.put_end.Goals as goal

pub returns-then-over : goal.returns-then-over
returns-then-over c = rw c.if-over.true (search (rules, line_written))
