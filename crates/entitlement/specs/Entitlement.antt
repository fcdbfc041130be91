-- Whether a transfer is open to the member: the tests of the dates, then those of the member, in their order.
-- Assumes nothing.
use Rattle.std.specs.Prelude.{ℕ, ◌-◌, Bool, cond, not, ◌&&◌, ◌||◌, List, [], ◌∷◌, ◌++◌, eqb, leb, ltb}
use Rattle.calendar.specs.Dates.{before}
use Rattle.calendar.specs.Moving.{moved_on}
use Rattle.calendar.specs.declared.Date.{Date}
use Rattle.refusals.specs.Tests.{Test, ◌gives◌}
use Rattle.refusals.specs.declared.Refusal.TheVariants.{Dates, Order, Status, Receiver, Service, Refer, Age}
use Rattle.cases.specs.Entries.{line, any_line, age_of}
use Rattle.cases.specs.Flags.{gmp_flag}
use Rattle.cases.specs.Kinds.{rules_of}
use Rattle.cases.specs.declared.Line.{Line}
use Rattle.cases.specs.declared.Case.{Case}

-- a line after the first, within the count, that is not dated before the first
abbrev pub misplaced : Case → ℕ → Line → Bool
misplaced c i l = leb 1 i && ltb i c.count && not (before l.date (line c 0).date)

-- where lines are dated, the first is dated before the 65th birthday, or another not before the first
abbrev pub dated_lines_fault : Case → Bool
dated_lines_fault c = (rules_of c.kind).dated && (before (line c 0).date (moved_on 65 c.birth) || any_line (misplaced c) c)

-- 6 dates: the member left before or on the day of birth, or after the guarantee date; or the dates of the lines are at fault
abbrev pub dates_fault : Case → Bool
dates_fault c =
    not (before c.birth c.leaving) ||
    before c.guarantee c.leaving ||
    dated_lines_fault c

-- a line after the second, within the count, that is not dated before the line that it follows
abbrev pub out_of_order : Case → ℕ → Line → Bool
out_of_order c i l = leb 2 i && ltb i c.count && not (before l.date (line c (i - 1)).date)

-- 17 order: where lines are dated, the dates of those after the first do not strictly fall
abbrev pub order_fault : Case → Bool
order_fault c = (rules_of c.kind).dated && any_line (out_of_order c) c

-- 10 refer: a guaranteed minimum pension, and state pension age reached before 6 April 2016
abbrev pub new_state_pension : Date
new_state_pension = record { year = 2016; month = 4; day = 6 }

abbrev pub refer_fault : Case → Bool
refer_fault c = gmp_flag c.flags && before c.state_pension new_state_pension

-- a line within the count that is dated on or before the guarantee date
abbrev pub reached : Case → ℕ → Line → Bool
reached c i l = ltb i c.count && not (before c.guarantee l.date)

-- 11 age: where lines are dated, one of them has been reached; else the pension age has
abbrev pub age_fault : Case → Bool
age_fault c = cond (rules_of c.kind).dated (any_line (reached c) c) (leb (rules_of c.kind).pension_age (age_of c))

abbrev pub dates_tests : Case → List Test
dates_tests c =
    (dates_fault c gives Dates) ∷
    (order_fault c gives Order) ∷ []

-- 7 status: the member is not deferred; 8 receiver: the receiving scheme is of another type than defined benefit; 9 service: less
-- than 3 months; 11 age before 10 refer: a member who has reached pension age is not referred
abbrev pub member_tests : Case → List Test
member_tests c =
    (not (eqb c.status 1) gives Status) ∷
    (not (eqb c.receiver 1) gives Receiver) ∷
    (ltb c.service 3 gives Service) ∷
    (age_fault c gives Age) ∷
    (refer_fault c gives Refer) ∷ []

abbrev pub entitlement_tests : Case → List Test
entitlement_tests c = dates_tests c ++ member_tests c
