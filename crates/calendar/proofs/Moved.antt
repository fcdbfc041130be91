-- The laws of moving a date on: its year, that month and day stay bytes, and that it rises with the years.
-- Assumes nothing.
use Rattle.std.proofs.Common.{ℕ, suc, ◌+◌, ◌*◌, ◌≤◌, ◌<◌, ◌≡◌, refl, Bool, cond, not, ◌&&◌, ◌||◌, arith, eqb, ltb, le-ltb, eq-eqb}
use Rattle.std.proofs.Math.Decide.{dec_lt, ℕ_discrete}
use Rattle.calendar.specs.declared.Date.{Date}
use Rattle.calendar.specs.Dates.{is_leap, rank, before}
use Rattle.calendar.specs.Moving.{leap_day_in, in_year, moved_on}
use Rattle.calendar.proofs.Order.{Bytes, earlier_year, later_year}

pub year_is : (y : ℕ) (d : Date) → (in_year y d).year ≡ y
unfolding in_year
year_is y d = grind arith

pub stays_bytes : (y : ℕ) (d : Date) → Bytes d → Bytes (in_year y d)
unfolding in_year
stays_bytes y d b = record { month = grind arith; day = grind arith }

-- the date in a year by a test: 28 February for 29 February in a common year, else with the same month and day; no proof cites it,
-- docs/PORT.md names it
pub in_year_of : (y : ℕ) (d : Date) {leap moves : Bool} → leap ≡ is_leap y → (eqb d.month 2 && eqb d.day 29 && not leap) ≡ moves → cond moves (leap_day_in y) (record { year = y; month = d.month; day = d.day }) ≡ in_year y d
unfolding in_year
in_year_of y d p e = rw (← e, p)

-- a date in a year has one of that year's ranks
pub within_year : (y : ℕ) (d : Date) → Bytes d → (y * 65536 ≤ rank (in_year y d)) × (rank (in_year y d) < y * 65536 + 65536)
within_year y d b = omega (arith, year_is y d, stays_bytes y d b)

pub moved_rises : (d : Date) → Bytes d → (n : ℕ) → rank (moved_on n d) < rank (moved_on (suc n) d)
moved_rises d b n = omega (arith, within_year (d.year + n) d b, within_year (d.year + suc n) d b)

-- a day stands before the date in the year y where its year is less, or is y and the day stands before the date in its own year
pub before_in : (t d : Date) (y : ℕ) → (ltb t.year y || (eqb t.year y && before t (in_year t.year d))) ≡ before t (in_year y d)
before_in t d y = go (dec_lt t.year y) (ℕ_discrete t.year y)
  where
    go : Dec (t.year < y) → Dec (t.year ≡ y) → (ltb t.year y || (eqb t.year y && before t (in_year t.year d))) ≡ before t (in_year y d)
    go (yes l) e = grind (arith, earlier_year t (in_year y d), year_is y d)
    go (no l) (yes e) = rw (le-ltb t.year y (omega arith), eq-eqb t.year y e, e) refl
    go (no l) (no n) = grind (arith, later_year t (in_year y d), year_is y d)
