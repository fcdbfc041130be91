-- The entries of a case: the case that some numbers make, one to an entry, and the entries read off a case.
-- Assumes nothing.
use Rattle.std.specs.Prelude.{ℕ, ◌+◌, ◌*◌, ◌/◌, ◌%◌, Bool, List, [], ◌∷◌, ◌≡◌, get_or}
use Rattle.numbers.specs.Below.{any_below}
use Rattle.calendar.specs.Moving.{age}
use Rattle.calendar.specs.declared.Date.{Date}
use Rattle.cases.specs.Layout as layout
use Rattle.cases.specs.Layout.{Head, Amount, Entry, head, date, amount}
use Rattle.cases.specs.declared.Line.{Line}
use Rattle.cases.specs.declared.Case.{Case}

-- a date as one number of 32 bits: the year in its low 16 bits, then a byte for the month and one for the day
abbrev pub date_of : ℕ → Date
date_of n = record { year = n % 65536; month = n / 65536 % 256; day = n / 16777216 }

-- the line that a date and some amounts make
abbrev pub line_with : Date → (Amount → ℕ) → Line
line_with d n =
    record {
      date = d;
      pension = n layout.pension;
      additional = n layout.additional;
      survivor = n layout.survivor;
      dependant = n layout.dependant;
      lump = n layout.lump;
      modification = n layout.modification;
      scheme_pays = n layout.scheme_pays;
      scheme_pays_lump = n layout.scheme_pays_lump;
      debit_pension = n layout.debit_pension;
      debit_survivor = n layout.debit_survivor;
      debit_lump = n layout.debit_lump;
    }

-- the case that some numbers, one to a field before the lines, and some lines make
abbrev pub case_with : (Head → ℕ) → List Line → Case
case_with n lines =
    record {
      kind = n layout.kind;
      number = n layout.number;
      status = n layout.status;
      receiver = n layout.receiver;
      flags = n layout.flags;
      count = n layout.count;
      service = n layout.service;
      sex = n layout.sex;
      birth = date_of (n layout.birth);
      leaving = date_of (n layout.leaving);
      guarantee = date_of (n layout.guarantee);
      state_pension = date_of (n layout.state_pension);
      revaluation = n layout.revaluation;
      avc = n layout.avc;
      transfer = n layout.transfer;
      contributions = n layout.contributions;
      lines = lines;
    }

-- the line and the case that some numbers make, one to an entry
unfoldable pub line_by : (Entry → ℕ) → ℕ → Line
line_by n i = line_with (date_of (n (date i))) (λ a. n (amount i a))

unfoldable pub case_by : (Entry → ℕ) → Case
case_by n = case_with (λ h. n (head h)) (line_by n 0 ∷ line_by n 1 ∷ line_by n 2 ∷ line_by n 3 ∷ [])

-- line i of a case, from 0
abbrev pub line : Case → ℕ → Line
line c i = get_or c.lines i (line_by (λ e. 0) 0)

-- a test holds of one of the lines; it is given the line's place, from 0
abbrev pub any_line : (ℕ → Line → Bool) → Case → Bool
any_line t c = any_below 4 (λ i. t i (line c i))

-- age at the guarantee date
abbrev pub age_of : Case → ℕ
age_of c = age c.birth c.guarantee

-- an entry is a number or a date
pub data Value : Type 0 where
  figure : ℕ → Value
  day : Date → Value

abbrev pub head_in : Head → Case → Value
head_in layout.kind c = figure c.kind
head_in layout.number c = figure c.number
head_in layout.status c = figure c.status
head_in layout.receiver c = figure c.receiver
head_in layout.flags c = figure c.flags
head_in layout.count c = figure c.count
head_in layout.service c = figure c.service
head_in layout.sex c = figure c.sex
head_in layout.birth c = day c.birth
head_in layout.leaving c = day c.leaving
head_in layout.guarantee c = day c.guarantee
head_in layout.state_pension c = day c.state_pension
head_in layout.revaluation c = figure c.revaluation
head_in layout.avc c = figure c.avc
head_in layout.transfer c = figure c.transfer
head_in layout.contributions c = figure c.contributions

abbrev pub amount_in : Amount → Line → ℕ
amount_in layout.pension l = l.pension
amount_in layout.additional l = l.additional
amount_in layout.survivor l = l.survivor
amount_in layout.dependant l = l.dependant
amount_in layout.lump l = l.lump
amount_in layout.modification l = l.modification
amount_in layout.scheme_pays l = l.scheme_pays
amount_in layout.scheme_pays_lump l = l.scheme_pays_lump
amount_in layout.debit_pension l = l.debit_pension
amount_in layout.debit_survivor l = l.debit_survivor
amount_in layout.debit_lump l = l.debit_lump

abbrev pub entry : Entry → Case → Value
entry (head h) c = head_in h c
entry (date i) c = day (line c i).date
entry (amount i a) c = figure (amount_in a (line c i))

-- c and d are alike in every entry but e
abbrev pub AlikeBut : Entry → Case → Case → Type 0
AlikeBut e c d = (x : Entry) → (x ≡ e → ⊥) → entry x c ≡ entry x d

-- the number that a block holds for an entry; a date is one number too, as `date_of` takes it apart
abbrev pub numeral : Value → ℕ
numeral (figure n) = n
numeral (day d) = d.year + d.month * 65536 + d.day * 16777216

abbrev pub held : Entry → Case → ℕ
held e c = numeral (entry e c)
