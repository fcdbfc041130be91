-- How far the gross value lies from the exact one, under any factors. Each rounding moves a number by half a unit at most: an amount
-- by half a penny, which its factor multiplies, and the first value and the debit value by half a penny each.
-- Assumes nothing.
use Rattle.std.proofs.Common.{ℕ, [], ◌∷◌, ◌+◌, ◌-◌, ◌*◌, ◌≤◌, ◌<◌, Bool, true, false, cond, ◌≡◌, refl, add-mul, mul_right_comm, zero-mul, arith, lit<, eqb, eqb-true}
use Rattle.numbers.specs.Rounding.{nearest, Within}
use Rattle.numbers.specs.Below.{sum_below}
use Rattle.numbers.proofs.Rounding.{nearest_half}
use Rattle.numbers.proofs.Within.{within_mul, sum_within}
use Rattle.numbers.proofs.Below.{sum_plus, sum_times}
use Rattle.cases.specs.Entries.{line, line_by, case_by}
use Rattle.cases.specs.declared.Case.{Case}
use Rattle.factors.specs.declared.Factors.{Factors}
use Rattle.sums.specs.Sum.{Benefit, member_pension, lump_sum, survivor_pension, entered, revalued, debited, revalued_debit, factor, over_lines, over_benefits, valued_on, deduction, credit, negative_fault, first_value, debit_value, award_fault, gross_by, scheme_pays_fault}
use Rattle.sums.specs.Exact.{exact_added, exact_scheme_pays, exact_deduction, exact_debit, WithinOfExact, factors_on, exact_bound, NearExact}
use Rattle.sums.proofs.Covered.{covered, not_negative}
use Rattle.sums.proofs.Divorce.{gross_and_debit, revalued_none, no_value, no_debits, without_divorce}

revalued_near : (v x : ℕ) → Within 5000 (revalued v x * 10000) (x * v)
revalued_near v x = omega (arith, nearest_half 10000 (x * v) (lit< tt))

-- an amount of zero is not rounded
zero_revalued : (v x : ℕ) → x ≡ 0 → (revalued v x ≡ 0) × (x * v ≡ 0)
zero_revalued v x e = rw e (revalued_none v, zero-mul v)

-- a total of t hundredths of a penny, rounded to the penny
total_near : (n t taken added : ℕ) → Within n (t * 10000 + taken) added → Within (n + 500000) (nearest 100 t * 1000000 + taken) added
total_near n t taken added w = omega (arith, nearest_half 100 t (lit< tt))

-- amounts x in pence that lie within half a penny of y less t, which are in ten-thousandths of a penny, and are the same where an
-- amount a is zero
module _
    (f : ℕ → Factors) (a x t y : ℕ → Benefit → ℕ)
    (near : (b : Benefit) (j : ℕ) → j < 4 → Within 5000 (x j b * 10000 + t j b) (y j b))
    (same : (b : Benefit) (j : ℕ) → j < 4 → a j b ≡ 0 → x j b * 10000 + t j b ≡ y j b)
  where
    -- then the values of a benefit over all lines lie within half the sum of its factors used on a, in pence
    value_near :
        (b : Benefit) →
        Within (5000 * over_lines (λ i. cond (eqb (a i b) 0) 0 (factor b (f i)))) (valued_on f x b * 10000 + valued_on f t b) (valued_on f y b)
    unfolding valued_on
    value_near b =
        omega (
          arith,
          sum_within 4 (λ j. 5000 * used j) (λ j. 10000 * (x j b * k j) + t j b * k j) (λ j. y j b * k j) on_line,
          sum_times 4 5000 used,
          sum_times 4 10000 (λ j. x j b * k j),
          sum_plus 4 (λ j. 10000 * (x j b * k j)) (λ j. t j b * k j),
        )
      where
        k : ℕ → ℕ
        k j = factor b (f j)

        used : ℕ → ℕ
        used j = cond (eqb (a j b) 0) 0 (k j)

        times : (j n : ℕ) → Within n (x j b * 10000 + t j b) (y j b) → Within (n * k j) (10000 * (x j b * k j) + t j b * k j) (y j b * k j)
        times j n w =
            omega (
              arith,
              within_mul n (x j b * 10000 + t j b) (y j b) (k j) w,
              add-mul (x j b * 10000) (t j b) (k j),
              mul_right_comm (x j b) 10000 (k j),
            )

        on_line : (j : ℕ) → j < 4 → Within (5000 * used j) (10000 * (x j b * k j) + t j b * k j) (y j b * k j)
        on_line j h = go (eqb (a j b) 0) refl
          where
            go : (s : Bool) → eqb (a j b) 0 ≡ s → Within (5000 * cond s 0 (k j)) (10000 * (x j b * k j) + t j b * k j) (y j b * k j)
            go true e = omega (arith, times j 0 (omega (arith, same b j h (eqb-true (a j b) 0 e))))
            go false e = times j 5000 (near b j h)

    values_near :
        Within (5000 * factors_on f a) (over_benefits (valued_on f x) * 10000 + over_benefits (valued_on f t)) (over_benefits (valued_on f y))
    unfolding factors_on
    values_near = omega (arith, value_near member_pension, value_near lump_sum, value_near survivor_pension)

module _ (f : ℕ → Factors) (c : Case) where
  -- the factors used on what is entered, and on the divorce debits
  abbrev on_entered : ℕ
  on_entered = factors_on f (λ i b. entered b (line c i))

  abbrev on_debited : ℕ
  on_debited = factors_on f (λ i b. debited b (line c i))

  debit_near_exact : Within (5000 * on_debited + 500000) (debit_value f c * 1000000) (exact_debit f c)
  unfolding debit_value exact_debit
  debit_near_exact = omega (arith, total_near (5000 * on_debited) (over_benefits value) 0 (exact_debit f c) near)
    where
      value : Benefit → ℕ
      value = valued_on f (λ i. revalued_debit c.revaluation (line c i))

      none : (b : Benefit) → valued_on f (λ i d. 0) b ≡ 0
      none b = no_value f (λ i d. 0) b (λ j. refl)

      near : Within (5000 * on_debited) (over_benefits value * 10000 + 0) (exact_debit f c)
      near =
          omega (
            arith,
            none member_pension,
            none lump_sum,
            none survivor_pension,
            values_near f (λ i d. debited d (line c i)) (λ i. revalued_debit c.revaluation (line c i)) (λ i d. 0) (λ i d. debited d (line c i) * c.revaluation)
                (λ b j h. omega (arith, revalued_near c.revaluation (debited b (line c j))))
                (λ b j h e. omega (arith, zero_revalued c.revaluation (debited b (line c j)) e)),
          )

  module _ (no_excess : scheme_pays_fault c ≡ false) (notNegative : negative_fault f c ≡ false) where
    first_near_exact :
        Within (5000 * on_entered + 500000) (first_value f c * 1000000 + (exact_scheme_pays f c + exact_deduction f c)) (exact_added f c)
    unfolding first_value credit exact_scheme_pays exact_added
    first_near_exact = total_near _ (credit f c - deduction f c) _ _ (omega (arith, near, not_negative f c notNegative))
      where
        near : Within (5000 * on_entered) (credit f c * 10000 + exact_scheme_pays f c) (exact_added f c)
        near =
            values_near f (λ i b. entered b (line c i)) _ _ _
            (λ b j h. omega (arith, revalued_near c.revaluation (entered b (line c j)), covered c no_excess j h b))
            (λ b j h e. omega (arith, zero_revalued c.revaluation (entered b (line c j)) e, covered c no_excess j h b))

    pub gross_near_exact : award_fault f c ≡ false → NearExact f c (gross_by f c)
    gross_near_exact no_award = omega (arith, first_near_exact, debit_near_exact, gross_and_debit f c no_award)

    -- without a divorce debit there is one rounding to the penny instead of two
    pub near_exact_without_divorce :
        ((b : Benefit) (j : ℕ) → debited b (line c j) ≡ 0) → WithinOfExact f c (on_entered * 5000 + 500000) (gross_by f c)
    unfolding exact_debit
    near_exact_without_divorce none =
        omega (
          arith,
          first_near_exact,
          (without_divorce f c none).1,
          no_debits f c none (λ x. x * c.revaluation) (zero-mul c.revaluation),
        )

-- four lines with the factors of kind 1 at 54 have a bound of 82.72p where every amount is filled, and of 1p where none is
abbrev at_54 : ℕ → Factors
at_54 i = record { pension = 1805; lump = 88; survivor = 150; deduction = 1242 }

bound_at_54 : (exact_bound at_54 (case_by (λ e. 1)) ≡ 82720000) × (exact_bound at_54 (case_by (λ e. 0)) ≡ 1000000)
unfolding factors_on sum_below case_by line_by
bound_at_54 = (refl, refl)

-- a hundred pounds of pension on line 1, not revalued
abbrev hundred_pounds : Case
hundred_pounds = record (case_by (λ e. 0)) { revaluation = 10000; lines = record (line_by (λ e. 0) 0) { pension = 10000 } ∷ [] }

-- its exact value is £1,805.00 and its bound 10.025p: 10p above or below is near, and 11p is not
near_at_54 :
    (NearExact at_54 hundred_pounds 180510 × NearExact at_54 hundred_pounds 180490) ×
    ((NearExact at_54 hundred_pounds 180511 → ⊥) × (NearExact at_54 hundred_pounds 180489 → ⊥))
unfolding factors_on sum_below case_by line_by exact_added exact_scheme_pays exact_debit valued_on deduction
near_at_54 = (
  (omega arith, omega arith),
  (
    (λ w. let h : 180511000000 ≤ 180510025000 = w.0 in omega (arith, h)),
    (λ w. let h : 180500000000 ≤ 180499025000 = w.1 in omega (arith, h)),
  ),
)
