use Rattle.std.proofs.Common.{rules}
use Rattle.runs.proofs.Forming.{line_written}
use Rattle.runs.proofs.line.put_line.Goals as goal

pub returns-clause-written : goal.returns-clause-written
returns-clause-written c = search (rules, line_written)
