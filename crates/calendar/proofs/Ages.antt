-- The laws of age.
-- Assumes nothing.
use Rattle.std.proofs.Common.{ℕ, suc, ◌+◌, ◌-◌, ◌≡◌, Bool, cond, not, ◌&&◌, arith, ltb}
use Rattle.numbers.proofs.Threshold.{Threshold, many_threshold}
use Rattle.calendar.specs.declared.Date.{Date}
use Rattle.calendar.specs.Dates.{before}
use Rattle.calendar.specs.Moving.{in_year, moved_on, age}
use Rattle.calendar.proofs.Moved.{before_in}

module _ (birth on : Date) where
  counted : Threshold (λ n. not (before on (moved_on (suc n) birth))) (on.year - birth.year - cond (before on (in_year on.year birth)) 1 0)
  counted = record {
    holds = λ n h. grind (arith, before_in on birth (birth.year + suc n));
    fails = λ n h. grind (arith, before_in on birth (birth.year + suc n));
  }

  -- age as the code counts it
  pub age_is : age birth on ≡ on.year - birth.year - cond (before on (in_year on.year birth)) 1 0
  unfolding age
  age_is = grind (arith, many_threshold (on.year - birth.year) _ _ counted)

  -- age is the number of birthdays reached: every birthday up to the age is reached, and none past it
  pub age_threshold : Threshold (λ n. not (before on (moved_on (suc n) birth))) (age birth on)
  age_threshold = rw age_is counted

  -- age by a test: the years between, less one where there are any and the day stands before the birthday in its own year; no proof
  -- cites it, docs/PORT.md names it
  pub age_of_lem : {years : ℕ} {birthday : Date} {late less : Bool} → years ≡ on.year - birth.year → birthday ≡ in_year on.year birth → late ≡ before on birthday → (ltb 0 years && late) ≡ less → cond less (years - 1) years ≡ age birth on
  age_of_lem p q r e = grind (arith, age_is)
