-- Steps 1 to 4 of the sum, and the divorce debit: the gross value of a case, under any factors f, one record of them to a line.
-- Assumes nothing.
use Rattle.std.specs.Prelude.{ℕ, ◌+◌, ◌-◌, ◌*◌, Bool, ◌||◌, ltb}
use Rattle.numbers.specs.Rounding.{nearest}
use Rattle.numbers.specs.Below.{sum_below}
use Rattle.cases.specs.Entries.{line, any_line}
use Rattle.cases.specs.declared.Line.{Line}
use Rattle.cases.specs.declared.Case.{Case}
use Rattle.factors.specs.declared.Factors.{Factors}

-- the benefits of a line
pub data Benefit : Type 0 where
  member_pension lump_sum survivor_pension : Benefit

-- 1: what is entered of a benefit; additional amounts count with those that they add to
abbrev pub entered : Benefit → Line → ℕ
entered member_pension l = l.pension + l.additional
entered lump_sum l = l.lump
entered survivor_pension l = l.survivor + l.dependant

-- 1: that times the revaluation factor v, in ten-thousandths, rounded once to the penny
abbrev pub revalued : ℕ → ℕ → ℕ
revalued v x = nearest 10000 (x * v)

-- 2: Scheme Pays reduces the revalued pension and lump sum, and no survivor's pension
abbrev pub scheme_pays_on : Benefit → Line → ℕ
scheme_pays_on member_pension l = l.scheme_pays
scheme_pays_on lump_sum l = l.scheme_pays_lump
scheme_pays_on survivor_pension l = 0

abbrev pub reduced : ℕ → Line → Benefit → ℕ
reduced v l b = revalued v (entered b l) - scheme_pays_on b l

-- a divorce debit (the notes' pension debit): by how much each benefit, as at leaving, is reduced for the former spouse
abbrev pub debited : Benefit → Line → ℕ
debited member_pension l = l.debit_pension
debited lump_sum l = l.debit_lump
debited survivor_pension l = l.debit_survivor

-- it is revalued as the benefits are, and no Scheme Pays comes off it
abbrev pub revalued_debit : ℕ → Line → Benefit → ℕ
revalued_debit v l b = revalued v (debited b l)

-- a benefit's factor, in hundredths
abbrev pub factor : Benefit → Factors → ℕ
factor member_pension f = f.pension
factor lump_sum f = f.lump
factor survivor_pension f = f.survivor

-- 3: what the modification takes off, by the factor for it: E, or F for women from 60 in the 2008 section
abbrev pub deduction_at : Factors → Line → ℕ
deduction_at f l = l.modification * f.deduction

abbrev pub over_lines : (ℕ → ℕ) → ℕ
over_lines g = sum_below 4 g

abbrev pub over_benefits : (Benefit → ℕ) → ℕ
over_benefits g = g member_pension + g lump_sum + g survivor_pension

-- 3: a line's amount of a benefit times the line's factor for it, in hundredths of a penny; nothing is rounded here
abbrev pub valued_at : Factors → (Benefit → ℕ) → Benefit → ℕ
valued_at f amount b = amount b * factor b f

-- 3: the same over all lines, each line's amount on that line's factors
unfoldable pub valued_on : (ℕ → Factors) → (ℕ → Benefit → ℕ) → Benefit → ℕ
valued_on f amount b = over_lines (λ i. valued_at (f i) (amount i) b)

module _ (f : ℕ → Factors) (c : Case) where
  -- 3: the items, of the benefits that Scheme Pays has reduced
  abbrev pub item : Benefit → ℕ
  item = valued_on f (λ i. reduced c.revaluation (line c i))

  unfoldable pub deduction : ℕ
  deduction = over_lines (λ i. deduction_at (f i) (line c i))

  unfoldable pub credit : ℕ
  credit = over_benefits item

  -- 4: the total of what is added and what is taken off is below zero
  unfoldable pub negative_fault : Bool
  negative_fault = ltb credit deduction

  -- 4: the first value (change request No. 1's term), before any divorce debit: the total, where it is not below zero, rounded once
  -- to the penny
  unfoldable pub first_value : ℕ
  first_value = nearest 100 (credit - deduction)

  -- the debit value (001, 2.27; 003, 2.28), that of the divorce debit: over all benefits and lines, rounded once to the penny
  unfoldable pub debit_value : ℕ
  debit_value = nearest 100 (over_benefits (valued_on f (λ i. revalued_debit c.revaluation (line c i))))

  -- the debit value is above the first value
  unfoldable pub award_fault : Bool
  award_fault = ltb first_value debit_value

  -- the gross value: the first value less the debit value, where that is not above it
  unfoldable pub gross_by : ℕ
  gross_by = first_value - debit_value

-- Scheme Pays on a benefit of line l is above the revalued amount that it reduces
abbrev pub exceeds : ℕ → Line → Benefit → Bool
exceeds v l b = ltb (revalued v (entered b l)) (scheme_pays_on b l)

abbrev pub scheme_pays_exceeds : ℕ → Line → Bool
scheme_pays_exceeds v l = exceeds v l member_pension || exceeds v l lump_sum

unfoldable pub scheme_pays_fault : Case → Bool
scheme_pays_fault c = any_line (λ i l. scheme_pays_exceeds c.revaluation l) c
