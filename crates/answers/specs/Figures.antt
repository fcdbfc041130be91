-- The figures at the edges that are proved: nine rows, what the definitions work out beside what 01 and the change requests state; and
-- outcomes in numbers.
-- Assumes nothing.
use Rattle.std.specs.Prelude.{ℕ, ◌-◌, List, [], ◌∷◌, map}
use Rattle.std.proofs.Math.Logic.{ite}
use Rattle.calendar.specs.Moving.{age, years_ahead}
use Rattle.calendar.specs.declared.Date.{Date}
use Rattle.cases.specs.Layout.{Amount, amount_discrete, pension, additional, survivor, dependant, lump, modification, scheme_pays}
use Rattle.cases.specs.Entries.{line_with, line_by, line, age_of}
use Rattle.refusals.specs.Refusals.{number_of}
use Rattle.refusals.specs.declared.Refusal.TheVariants.{Length, Award}
use Rattle.cases.specs.declared.Line.{Line}
use Rattle.cases.specs.declared.Case.{Case}
use Rattle.sums.specs.Rows.{factors_of}
use Rattle.sums.specs.Sum.{Benefit, member_pension, survivor_pension, revalued, reduced, factor, credit, deduction}
use Rattle.answers.specs.declared.Outcome.{Outcome}
use Rattle.answers.specs.declared.Outcome.TheVariants.{Paid, Refused}
use Rattle.answers.specs.Answer.{gross_of, answer_of, outcome_numbers}

-- what a row shows: numbers; of a case that is paid its gross value and payment in pence, of another the refusal's number
pub data Shown : Type 0 where
  number : ℕ → Shown
  paid : ℕ → ℕ → Shown
  refused : ℕ → Shown

abbrev pub outcome_shown : Case → Outcome → Shown
outcome_shown c (Paid items) = paid (gross_of c) items.payment
outcome_shown c (Refused r) = refused (number_of r)

-- valuing's answer to a case
abbrev pub answered : Case → Shown
answered c = outcome_shown c (answer_of c)

-- the total of step 4 before its rounding, where it is not below zero, in hundredths of a penny
abbrev pub total_of : Case → Shown
total_of c = number (credit (factors_of c) c - deduction (factors_of c) c)

-- on line 1, a benefit's revalued amount in pence and its factor in hundredths
abbrev pub amount_of : Benefit → Case → Shown
amount_of b c = number (reduced c.revaluation (line c 0) b)

abbrev pub factor_of : Benefit → Case → Shown
factor_of b c = number (factor b (factors_of c 0))

-- day, month, year
abbrev pub date : ℕ → ℕ → ℕ → Date
date d m y = record { year = y; month = m; day = d }

-- a deferred member with one line, who asks for a transfer to a defined benefit scheme
abbrev pub member : ℕ → Date → Date → Date → ℕ → Line → Case
member kind birth leaving guarantee revaluation first =
    let none : Line = line_by (λ e. 0) 0 in
    record {
      kind = kind;
      number = 1;
      status = 1;
      receiver = 1;
      flags = 0;
      count = 1;
      service = 3;
      sex = 0;
      birth = birth;
      leaving = leaving;
      guarantee = guarantee;
      state_pension = date 0 0 0;
      revaluation = revaluation;
      avc = 0;
      transfer = 0;
      contributions = 0;
      lines = first ∷ none ∷ none ∷ none ∷ [];
    }

-- an amount of a line
pub record Filled : Type 0 where
  pub pence : ℕ
  pub name : Amount

infix 70 ◌of◌
abbrev pub ◌of◌ : ℕ → Amount → Filled
◌of◌ n a = record { pence = n; name = a }

-- a line of the amounts that are named; the others are 0
abbrev pub among : List Filled → Amount → ℕ
among [] a = 0
among (x ∷ xs) a = ite (amount_discrete a x.name) x.pence (among xs a)

abbrev pub line_of : Date → List Filled → Line
line_of d some = line_with d (among some)

-- Example A of 001
abbrev pub example_a : Case
example_a =
    member 1 (date 1 6 1967) (date 1 4 2012) (date 1 2 2020) 11400
    (line_of (date 0 0 0)
    (500000 of pension ∷ 100000 of additional ∷ 250000 of survivor ∷ 37500 of dependant ∷ 1500000 of lump ∷ 2000 of modification ∷ []))

-- Example C of 003
abbrev pub example_c : Case
example_c =
    member 2 (date 1 11 1952) (date 1 11 2015) (date 1 2 2016) 10496
    (line_of (date 1 11 2017) (350000 of pension ∷ 118125 of survivor ∷ []))

-- kind 1, age 54, at a revaluation factor in ten-thousandths
abbrev pub aged54_at : ℕ → List Filled → Case
aged54_at revaluation some = member 1 (date 1 6 1967) (date 1 4 2012) (date 1 6 2021) revaluation (line_of (date 0 0 0) some)

-- without revaluation
abbrev pub aged54 : List Filled → Case
aged54 = aged54_at 10000

-- ten pence a year and a penny for the survivor, which come to 182p
abbrev pub ten_pence : Case
ten_pence = aged54 (10 of pension ∷ 1 of survivor ∷ [])

-- one row: what is worked out, and what is stated
pub record Figure : Type 0 where
  pub worked : List Shown
  pub stated : List Shown

infix 4 ◌is◌
abbrev pub ◌is◌ : List Shown → List Shown → Figure
◌is◌ w s = record { worked = w; stated = s }

-- a row of numbers alone
infix 4 ◌shows◌
abbrev pub ◌shows◌ : List ℕ → List ℕ → Figure
◌shows◌ w s = map number w is map number s

abbrev pub figures : List Figure
figures =
    (number (revalued 10660 84375) ∷ [] is number 89944 ∷ []) ∷
    (number (revalued 15000 1) ∷ [] is number 2 ∷ []) ∷
    (total_of example_a ∷ answered example_a ∷ [] is number 1368689250 ∷ paid 13686893 13686893 ∷ []) ∷
    (amount_of member_pension example_c ∷ factor_of member_pension example_c ∷
    amount_of survivor_pension example_c ∷ factor_of survivor_pension example_c ∷ answered example_c ∷ []
    is number 367360 ∷ number 1665 ∷ number 123984 ∷ number 160 ∷ paid 6314918 6314918 ∷ []) ∷
    (number (age_of ten_pence) ∷ answered ten_pence ∷ [] is number 54 ∷ paid 182 182 ∷ []) ∷
    (answered (aged54 (100 of pension ∷ 100 of scheme_pays ∷ [])) ∷ answered (aged54 (100 of pension ∷ 101 of scheme_pays ∷ [])) ∷ []
    is paid 0 0 ∷ refused 13 ∷ []) ∷
    (answered (aged54 (1 of modification ∷ [])) ∷ [] is refused 14 ∷ []) ∷
    (number (age (date 1 6 1967) (date 31 5 2020)) ∷ number (age (date 1 6 1967) (date 1 6 2020)) ∷ [] is number 52 ∷ number 53 ∷ []) ∷
    (number (years_ahead (date 3 7 2021) (date 3 7 2047)) ∷ number (years_ahead (date 3 7 2021) (date 4 7 2047)) ∷ []
    is number 26 ∷ number 27 ∷ []) ∷ []

-- an outcome in numbers: of a payment 0 and its amounts in the order of a line, of a refusal its number; Example A of 001 is one
abbrev pub outcome_figures : List Figure
outcome_figures =
    (outcome_numbers (Paid (record { payment = 1; pension = 2; lump = 3; survivor = 4; deduction = 5; underpin = 6; avc = 7 })) shows
    0 ∷ 1 ∷ 2 ∷ 3 ∷ 4 ∷ 5 ∷ 6 ∷ 7 ∷ []) ∷
    (outcome_numbers (answer_of example_a) shows 0 ∷ 13686893 ∷ 1179216000 ∷ 143640000 ∷ 48179250 ∷ 2346000 ∷ 0 ∷ 0 ∷ []) ∷
    (outcome_numbers (Refused Length) shows 1 ∷ []) ∷
    (outcome_numbers (Refused Award) shows 16 ∷ []) ∷ []
