-- Demand 3: two accepted cases that are alike in every entry but one.
-- Assumes nothing.
use Rattle.std.specs.Prelude.{ℕ, ◌+◌, ◌-◌, ◌*◌, ◌≤◌, Bool, true, false, cond, ◌≡◌, ltb}
use Rattle.numbers.specs.Rounding.{Within}
use Rattle.cases.specs.Layout as layout
use Rattle.cases.specs.Layout.{Amount, Entry}
use Rattle.cases.specs.Entries.{held, AlikeBut}
use Rattle.cases.specs.declared.Case.{Case}
use Rattle.sums.specs.Rows.{factors_of}
use Rattle.sums.specs.Sum.{Benefit, member_pension, lump_sum, survivor_pension, factor}
use Rattle.sums.specs.Payment.{payment}
use Rattle.answers.specs.declared.Outcome.{Outcome}
use Rattle.answers.specs.declared.Outcome.TheVariants.{Paid}
use Rattle.answers.specs.Answer.{Accepted, answer_of, items_of, gross_of, paid}

-- what an entry is to the sum: it adds to a benefit on a line, or it is taken off; of any other nothing is promised
pub data Role : Type 0 where
  adds : Benefit → ℕ → Role
  taken other : Role

-- additional amounts count as the pension that they add to; both amounts of Scheme Pays and the three of a divorce debit are debits,
-- and the insurance deduction is the modification
abbrev pub role_on_line : ℕ → Amount → Role
role_on_line i layout.pension = adds member_pension i
role_on_line i layout.additional = adds member_pension i
role_on_line i layout.survivor = adds survivor_pension i
role_on_line i layout.dependant = adds survivor_pension i
role_on_line i layout.lump = adds lump_sum i
role_on_line i layout.modification = taken
role_on_line i layout.scheme_pays = taken
role_on_line i layout.scheme_pays_lump = taken
role_on_line i layout.debit_pension = taken
role_on_line i layout.debit_survivor = taken
role_on_line i layout.debit_lump = taken

-- whether something is promised of an entry of this role; of each amount of a line it is (the law all_promised)
abbrev pub promised : Role → Bool
promised (adds b i) = true
promised taken = true
promised other = false

-- there are four lines
abbrev pub role_of : Entry → Role
role_of (layout.head h) = other
role_of (layout.date i) = other
role_of (layout.amount i a) = cond (ltb i 4) (role_on_line i a) other

-- the factor of a benefit that is used on line i of a case, in hundredths
abbrev pub factor_at : Benefit → ℕ → Case → ℕ
factor_at b i c = factor b (factors_of c i)

-- how far the difference of two gross values may lie from the exact product, in millionths of a penny, where the benefit's factor is
-- k hundredths: that factor, in pence, and one penny
abbrev pub near_bound : ℕ → ℕ
near_bound k = (k + 100) * 10000

-- c is answered with r and d with s, and the entry of d is the larger by so many pence.
-- A benefit: d is paid no less, and its gross value lies above c's by extra amount × revaluation factor × benefit's factor, to
-- within that factor plus one pence. Here in millionths of a penny: the factors are ten-thousandths and hundredths.
-- A debit or an insurance deduction: d is paid no more
abbrev pub Compared : Role → Case → Outcome → Case → Outcome → ℕ → Type 0
Compared (adds b i) c r d s extra =
    (paid r ≤ paid s) ×
    Within (near_bound (factor_at b i c)) (gross_of d * 1000000) (gross_of c * 1000000 + extra * c.revaluation * factor_at b i c)
Compared taken c r d s extra = paid s ≤ paid r
Compared other c r d s extra = Unit

-- demand 3, of a case c that valuing answers with r
pub record Demand3 (c : Case) (r : Outcome) : Type 0 where
  -- accepted, it is answered with a payment, which steps 5 and 6 make of its gross value
  pub payable : Accepted c → (r ≡ Paid (items_of c)) × (paid r ≡ payment c (gross_of c))
  -- against any accepted case d, which valuing answers with s, alike in every entry but e, where d has the larger one
  pub compared :
      (e : Entry) (d : Case) (s : Outcome) → AlikeBut e c d → Accepted c → Accepted d → s ≡ answer_of d →
      held e c ≤ held e d → Compared (role_of e) c r d s (held e d - held e c)
