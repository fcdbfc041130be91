-- Refusals 3, 4 and 5 of a case: kind, reserved, range.
-- Assumes nothing.
use Rattle.std.specs.Prelude.{ℕ, Bool, false, not, ◌&&◌, ◌||◌, List, [], ◌∷◌, eqb, leb, ltb}
use Rattle.numbers.specs.Lists.{any}
use Rattle.calendar.specs.Dates.{is_real, is_zero}
use Rattle.refusals.specs.Tests.{Test, ◌gives◌, NoneOf}
use Rattle.refusals.specs.declared.Refusal.TheVariants.{Kind, Reserved, Range}
use Rattle.cases.specs.Layout.{Amount, additional, dependant, lump, modification, scheme_pays_lump, debit_lump, amounts}
use Rattle.cases.specs.Entries.{any_line, amount_in}
use Rattle.cases.specs.Flags.{transfer_flag, gmp_flag, choice_optant_flag, unused_flag}
use Rattle.cases.specs.Kinds.{rules_of}
use Rattle.cases.specs.declared.Line.{Line}
use Rattle.cases.specs.declared.Case.{Case}
use Rattle.cases.specs.declared.Rules.{Rules}
use Rattle.cases.specs.declared.Faults.{Faults}

-- status: 1 deferred, 2 active, 3 pensioner, 4 pension credit
abbrev pub status_listed : ℕ → Bool
status_listed x = leb 1 x && leb x 4

-- receiving scheme: 1 defined benefit, 2 defined contribution, 3 overseas
abbrev pub receiver_listed : ℕ → Bool
receiver_listed x = leb 1 x && leb x 3

-- sex: 1 male, 2 female
abbrev pub sex_listed : ℕ → Bool
sex_listed x = leb 1 x && leb x 2

-- 3: the kind is not listed, or does not allow the count of lines
unfoldable pub kind_fault : ℕ → ℕ → Bool
kind_fault kind count = not (leb 1 count && leb count (rules_of kind).lines)

abbrev pub filled : ℕ → Bool
filled x = not (eqb x 0)

-- one of some amounts of a line is not zero
abbrev pub any_filled : List Amount → Line → Bool
any_filled some l = any (λ a. filled (amount_in a l)) some

-- something of a line is not zero
unfoldable pub line_filled : Line → Bool
line_filled l = not (is_zero l.date) || any_filled amounts l

-- whether a member may have a lump sum: all members may where the kind says so; where it has Choice Optants, only they may
abbrev pub lump_allowed : Rules → ℕ → Bool
lump_allowed rules flags = rules.lump || (rules.choice_optants && choice_optant_flag flags)

-- what must be zero in line i by its kind, flags and place: the date where the kind's lines are not dated; the lump sum and its debits
-- where the member may not have one; the modification where the kind has none; both additional amounts in every line but the first
unfoldable pub reserved_filled : Rules → ℕ → ℕ → Line → Bool
reserved_filled rules flags i l =
    (not rules.dated && not (is_zero l.date)) ||
    (not (lump_allowed rules flags) && any_filled (lump ∷ scheme_pays_lump ∷ debit_lump ∷ []) l) ||
    (not rules.modification && any_filled (modification ∷ []) l) ||
    (leb 1 i && any_filled (additional ∷ dependant ∷ []) l)

-- that, and past the count all of the line
unfoldable pub line_reserved_fault : Rules → ℕ → ℕ → ℕ → Line → Bool
line_reserved_fault rules flags count i l = (leb count i && line_filled l) || reserved_filled rules flags i l

-- what must be zero before the lines: flag bits without a meaning; a state pension date without GMP; a transfer-in payment without
-- the transfer flag; where the kind has no transfers, that flag and own contributions; the flag of a Choice Optant where the kind has
-- none; the sex where the kind does not ask for it
unfoldable pub head_reserved_fault : Case → Bool
head_reserved_fault c =
    unused_flag c.flags ||
    (not (gmp_flag c.flags) && not (is_zero c.state_pension)) ||
    (not (transfer_flag c.flags) && filled c.transfer) ||
    (not (rules_of c.kind).transfers && (transfer_flag c.flags || filled c.contributions)) ||
    (not (rules_of c.kind).choice_optants && choice_optant_flag c.flags) ||
    (not (rules_of c.kind).sex && filled c.sex)

-- 4: something that must be zero is not
unfoldable pub reserved_fault : Case → Bool
reserved_fault c = head_reserved_fault c || any_line (line_reserved_fault (rules_of c.kind) c.flags c.count) c

-- amounts go to 1,000,000,000 pence
abbrev pub too_large : ℕ → Bool
too_large x = ltb 1000000000 x

-- line i has an amount above the limit, or within the count, where lines are dated, a date that is no real day
unfoldable pub line_range_fault : Rules → ℕ → ℕ → Line → Bool
line_range_fault rules count i l =
    any (λ a. too_large (amount_in a l)) amounts ||
    (rules.dated && ltb i count && not (is_real l.date))

-- what one or the other breaks
abbrev pub either : Faults → Faults → Faults
either f g = record { reserved = f.reserved || g.reserved; range = f.range || g.range }

-- what line i breaks, and what the lines of a case break together, where kind, flags and count are those of `head`
abbrev pub line_faults : Rules → ℕ → ℕ → ℕ → Line → Faults
line_faults rules flags count i l = record { reserved = line_reserved_fault rules flags count i l; range = line_range_fault rules count i l }

abbrev pub lines_faults : Case → Case → Faults
lines_faults head c = record {
  reserved = any_line (line_reserved_fault (rules_of head.kind) head.flags head.count) c;
  range = any_line (line_range_fault (rules_of head.kind) head.count) c;
}

-- dates are real days; the state pension date only with GMP, without which it is zero
unfoldable pub dates_range_fault : Case → Bool
dates_range_fault c =
    not (is_real c.birth) || not (is_real c.leaving) || not (is_real c.guarantee) ||
    (gmp_flag c.flags && not (is_real c.state_pension))

-- before the lines: a case number of 0; a status, a receiving scheme or, where the kind asks for it, a sex that is not listed; a
-- revaluation factor, an amount or a date out of its range
unfoldable pub head_range_fault : Case → Bool
head_range_fault c =
    eqb c.number 0 ||
    not (status_listed c.status) ||
    not (receiver_listed c.receiver) ||
    ((rules_of c.kind).sex && not (sex_listed c.sex)) ||
    ltb c.revaluation 10000 ||
    ltb 100000 c.revaluation ||
    too_large c.avc ||
    too_large c.transfer ||
    too_large c.contributions ||
    dates_range_fault c

-- 5: something is out of its range
unfoldable pub range_fault : Case → Bool
range_fault c = head_range_fault c || any_line (line_range_fault (rules_of c.kind) c.count) c

-- refusals 3, 4 and 5, in their order, from whether each applies
abbrev pub form_tests_by : Bool → Bool → Bool → List Test
form_tests_by kind reserved range =
    (kind gives Kind) ∷
    (reserved gives Reserved) ∷
    (range gives Range) ∷ []

-- those of a case beside which its block may hold a byte, named by no field, that is not zero
abbrev pub form_tests : Bool → Case → List Test
form_tests unnamed c = form_tests_by (kind_fault c.kind c.count) (unnamed || reserved_fault c) (range_fault c)

-- a case to which none of them applies
abbrev pub WellFormed : Case → Type 0
WellFormed c = NoneOf (form_tests false c)
