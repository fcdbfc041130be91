-- The laws of years ahead.
-- Assumes nothing.
use Rattle.std.proofs.Common.{ℕ, suc, ◌+◌, ◌-◌, ◌≡◌, cond, arith}
use Rattle.numbers.proofs.Threshold.{Threshold, fewest_threshold}
use Rattle.calendar.specs.declared.Date.{Date}
use Rattle.calendar.specs.Dates.{before}
use Rattle.calendar.specs.Moving.{in_year, moved_on, years_ahead}
use Rattle.calendar.proofs.Order.{earlier_year, later_year}
use Rattle.calendar.proofs.Moved.{year_is}

module _ (from to : Date) where
  before_at : (y : ℕ) → y ≡ to.year → before (in_year y from) to ≡ before (in_year to.year from) to
  before_at y e = rw e

  to_ahead : Threshold (λ n. before (moved_on n from) to) (cond (before (in_year to.year from) to) (suc to.year) to.year - from.year)
  to_ahead = record {
    holds = λ n h. grind (arith, before_at, earlier_year, later_year, year_is);
    fails = λ n h. grind (arith, before_at, earlier_year, later_year, year_is);
  }

  -- years ahead as the code counts them
  pub ahead_is : years_ahead from to ≡ cond (before (in_year to.year from) to) (suc to.year) to.year - from.year
  unfolding years_ahead
  ahead_is = grind (arith, fewest_threshold (to.year - from.year + 1) _ _ to_ahead)

  -- moved on by fewer years it stands before, by so many or more it does not
  pub ahead_threshold : Threshold (λ n. before (moved_on n from) to) (years_ahead from to)
  ahead_threshold = rw ahead_is to_ahead
