-- The factors that are used on each line of a case.
-- Assumes nothing.
use Rattle.std.specs.Prelude.{ℕ, cond, Option, Some, leb}
use Rattle.calendar.specs.Moving.{years_ahead}
use Rattle.cases.specs.Entries.{line, age_of}
use Rattle.cases.specs.Kinds.{rules_of}
use Rattle.cases.specs.declared.Case.{Case}
use Rattle.factors.specs.Rows.{found, no_factors}
use Rattle.factors.specs.Tables.{row_in}
use Rattle.factors.specs.declared.Factors.{Factors}

-- years ahead of line i
abbrev pub ahead_of : Case → ℕ → ℕ
ahead_of c i = years_ahead c.guarantee (line c i).date

-- the row used on line i: in the table of the kind or, where the kind has one for each sex, of the kind and the sex; a line past the
-- count is zero and has factors of zero
unfoldable pub row_of : Case → ℕ → Option Factors
row_of c i = cond (leb c.count i) (Some no_factors) (row_in (rules_of c.kind).table c.sex (age_of c) (ahead_of c i))

unfoldable pub factors_of : Case → ℕ → Factors
factors_of c i = found (row_of c i)
