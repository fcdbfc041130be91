-- Real days of the Gregorian calendar in the years 1900 to 2199, and the order of dates.
-- Assumes nothing.
use Rattle.std.specs.Prelude.{ℕ, ◌+◌, ◌*◌, ◌%◌, Bool, cond, not, ◌&&◌, ◌||◌, eqb, leb, List, slice_index, Option, Some}
use Rattle.std.specs.Ordering.{nat_cmp, partial_ordering_then, partial_lt}
use Rattle.std.specs.declared.cmp.Ordering.{Ordering}
use Rattle.calendar.specs.declared.Date.{Date}

abbrev pub is_leap : ℕ → Bool
is_leap y = eqb (y % 400) 0 || (not (eqb (y % 100) 0) && eqb (y % 4) 0)

-- the days of a month; 0 where there is no such month
unfoldable pub days_in : ℕ → ℕ → ℕ
days_in y m =
    cond (eqb m 2) (cond (is_leap y) 29 28)
    (cond (eqb m 4 || eqb m 6 || eqb m 9 || eqb m 11) 30
    (cond (leb 1 m && leb m 12) 31 0))

-- a real day of the years 1900 to 2199
unfoldable pub is_real : Date → Bool
is_real d = leb 1900 d.year && leb d.year 2199 && leb 1 d.day && leb d.day (days_in d.year d.month)

-- all of a date is zero
abbrev pub is_zero : Date → Bool
is_zero d = eqb d.year 0 && eqb d.month 0 && eqb d.day 0

-- the date in four bytes: its year, low byte first, then month and day
abbrev pub date_of_bytes : List ℕ → Date
date_of_bytes bytes = record { year = slice_index bytes 0 + 256 * slice_index bytes 1; month = slice_index bytes 2; day = slice_index bytes 3 }

-- dates are in the order of year, then month, then day
abbrev pub date_cmp : Date → Date → Option Ordering
date_cmp d e =
    partial_ordering_then (Some (nat_cmp d.year e.year))
    (partial_ordering_then (Some (nat_cmp d.month e.month)) (Some (nat_cmp d.day e.day)))

abbrev pub before : Date → Date → Bool
before d e = partial_lt date_cmp d e

-- a date as one number: where month and day are bytes, these numbers are in the order of the dates (the law before_by_rank)
abbrev pub rank : Date → ℕ
rank d = d.year * 65536 + d.month * 256 + d.day
