use Rattle.std.proofs.Common.{ap, rules}
use Rattle.factors.specs.Rows.{row_numbers}
use Rattle.factors.specs.Tables.{section2008_men_table, row_at}
use Rattle.factors.proofs.Tables.{either_sex}
use Rattle.factors.proofs.Table.row.Goals as goal

pub returns-in-Section2008-clause-row : goal.returns-in-Section2008-clause-row
unfolding row_at section2008_men_table
returns-in-Section2008-clause-row c sex = rw (c.in-Section2008.is, either_sex sex c.args.age c.args.ahead) (search rules)

pub returns-in-Section2008-clause-numbers : goal.returns-in-Section2008-clause-numbers
returns-in-Section2008-clause-numbers c sex = ap row_numbers (returns-in-Section2008-clause-row c sex)
