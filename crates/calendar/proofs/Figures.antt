-- Figures of leap days and of the calendar's edges, by computing the definitions.
-- Assumes nothing.
use Rattle.std.proofs.Common.{ℕ, ◌≡◌, refl, true, false}
use Rattle.numbers.specs.Below.{how_many, fewest}
use Rattle.calendar.specs.declared.Date.{Date}
use Rattle.calendar.specs.Dates.{is_leap, days_in, is_real}
use Rattle.calendar.specs.Moving.{in_year, moved_on, age, years_ahead}

-- day, month, year
abbrev date : ℕ → ℕ → ℕ → Date
date d m y = record { year = y; month = m; day = d }

-- where a birthday on 29 February falls in leap years and in common years, of which 2100 is one; a 65th birthday
pub birthdays :
    (moved_on 52 (date 29 2 1968) ≡ date 29 2 2020) × (moved_on 56 (date 29 2 1968) ≡ date 29 2 2024) ×
    (moved_on 53 (date 29 2 1968) ≡ date 28 2 2021) × (moved_on 65 (date 29 2 1956) ≡ date 28 2 2021) ×
    (is_leap 2100 ≡ false) × (moved_on 4 (date 29 2 2096) ≡ date 28 2 2100)
unfolding in_year
birthdays = (refl, refl, refl, refl, refl, refl)

-- born on 29 February: a day before the birthday and on it, in a common year and in leap years
pub ages :
    (age (date 29 2 1968) (date 27 2 2021) ≡ 52) × (age (date 29 2 1968) (date 28 2 2021) ≡ 53) ×
    (age (date 29 2 1968) (date 28 2 2020) ≡ 51) × (age (date 29 2 1968) (date 29 2 2020) ≡ 52) ×
    (age (date 29 2 1968) (date 28 2 2024) ≡ 55) × (age (date 29 2 1968) (date 29 2 2024) ≡ 56)
unfolding age how_many in_year
ages = (refl, refl, refl, refl, refl, refl)

-- from 29 February to where it falls in a common year, and to the day after; to the first date itself and to an earlier one
pub ahead :
    (years_ahead (date 29 2 2020) (date 28 2 2045) ≡ 25) × (years_ahead (date 29 2 2020) (date 1 3 2045) ≡ 26) ×
    (years_ahead (date 3 7 2021) (date 3 7 2021) ≡ 0) × (years_ahead (date 3 7 2021) (date 4 7 2020) ≡ 0)
unfolding years_ahead fewest in_year
ahead = (refl, refl, refl, refl)

-- leap days, and the first and the last day
pub real :
    (is_real (date 29 2 1900) ≡ false) × (is_real (date 29 2 2000) ≡ true) × (is_real (date 29 2 2019) ≡ false) ×
    (is_real (date 29 2 2020) ≡ true) × (is_real (date 29 2 2100) ≡ false) ×
    (is_real (date 31 12 1899) ≡ false) × (is_real (date 1 1 1900) ≡ true) ×
    (is_real (date 31 12 2199) ≡ true) × (is_real (date 1 1 2200) ≡ false)
unfolding is_real days_in
real = (refl, refl, refl, refl, refl, refl, refl, refl, refl)
