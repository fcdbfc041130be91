-- A date moved on by years; age; years ahead.
-- Assumes nothing.
use Rattle.std.specs.Prelude.{ℕ, suc, ◌+◌, ◌-◌, cond, not, ◌&&◌, eqb}
use Rattle.numbers.specs.Below.{how_many, fewest}
use Rattle.calendar.specs.declared.Date.{Date}
use Rattle.calendar.specs.Dates.{is_leap, before}

-- where 29 February falls in a common year: 28 February (change request No. 2)
abbrev pub leap_day_in : ℕ → Date
leap_day_in y = record { year = y; month = 2; day = 28 }

-- the date in another year keeps month and day, but for 29 February in a common year
unfoldable pub in_year : ℕ → Date → Date
in_year y d =
    cond (eqb d.month 2 && eqb d.day 29 && not (is_leap y)) (leap_day_in y)
    (record { year = y; month = d.month; day = d.day })

-- a date moved on by n years
abbrev pub moved_on : ℕ → Date → Date
moved_on n d = in_year (d.year + n) d

-- age: the number of birthdays reached. The first is the birth moved on by one year, and none past the years between is
-- reached (the law age_threshold)
unfoldable pub age : Date → Date → ℕ
age birth on = how_many (on.year - birth.year) (λ n. not (before on (moved_on (suc n) birth)))

-- years ahead: the fewest years after which the first date, moved on, no longer stands before the second; so it is after any
-- more (the law ahead_threshold)
unfoldable pub years_ahead : Date → Date → ℕ
years_ahead from to = fewest (to.year - from.year + 1) (λ n. not (before (moved_on n from) to))
