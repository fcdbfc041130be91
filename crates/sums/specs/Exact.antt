-- The exact value of a case (change request No. 14): the sum of `Sum.antt` worked as a fraction, with nothing rounded, under any
-- factors f; and the bound on a gross value's distance from it. Values are in millionths of a penny, which makes the exact value a
-- whole number: the revaluation factor is in ten-thousandths, the other factors are in hundredths.
-- Assumes nothing.
use Rattle.std.specs.Prelude.{ℕ, ◌+◌, ◌*◌, cond, eqb}
use Rattle.numbers.specs.Rounding.{Within}
use Rattle.cases.specs.Entries.{line}
use Rattle.cases.specs.declared.Case.{Case}
use Rattle.factors.specs.declared.Factors.{Factors}
use Rattle.sums.specs.Sum.{Benefit, entered, scheme_pays_on, debited, factor, over_lines, over_benefits, valued_on, deduction}

-- The exact value is what is added less what is taken off. The two are kept apart, since it may lie below zero where the total of
-- rounded amounts does not
module _ (f : ℕ → Factors) (c : Case) where
  -- 1 and 3: what is entered of each benefit, times the revaluation factor, times the benefit's factor
  unfoldable pub exact_added : ℕ
  exact_added = over_benefits (valued_on f (λ i b. entered b (line c i) * c.revaluation))

  -- 2 and 3: Scheme Pays times the factor of the benefit that it reduces; it is entered as at the guarantee date, so not revalued
  unfoldable pub exact_scheme_pays : ℕ
  exact_scheme_pays = over_benefits (valued_on f (λ i b. scheme_pays_on b (line c i) * 10000))

  -- 3: the modification times the factor for it, not revalued either
  abbrev pub exact_deduction : ℕ
  exact_deduction = deduction f c * 10000

  -- the divorce debits, times the revaluation factor, times the benefit's factor
  unfoldable pub exact_debit : ℕ
  exact_debit = over_benefits (valued_on f (λ i b. debited b (line c i) * c.revaluation))

  abbrev pub exact_taken : ℕ
  exact_taken = exact_scheme_pays + exact_deduction + exact_debit

  -- g pence and the exact value lie no further apart than n millionths of a penny
  abbrev pub WithinOfExact : ℕ → ℕ → Type 0
  WithinOfExact n g = Within n (g * 1000000 + exact_taken) exact_added

-- the sum of the factors used on some amounts, over all benefits and lines, in hundredths: none is used on an amount of zero, on which
-- nothing is rounded
unfoldable pub factors_on : (ℕ → Factors) → (ℕ → Benefit → ℕ) → ℕ
factors_on f amount = over_benefits (λ b. over_lines (λ i. cond (eqb (amount i b) 0) 0 (factor b (f i))))

module _ (f : ℕ → Factors) (c : Case) where
  -- the sum of the factors used on revalued amounts: on what is entered of the benefits, and on the divorce debits
  abbrev pub factors_used : ℕ
  factors_used = factors_on f (λ i b. entered b (line c i)) + factors_on f (λ i b. debited b (line c i))

  -- half of that sum, in pence, and one penny; half a hundredth of a penny is 5,000 millionths
  abbrev pub exact_bound : ℕ
  exact_bound = factors_used * 5000 + 1000000

-- g pence lie within the bound
abbrev pub NearExact : (ℕ → Factors) → Case → ℕ → Type 0
NearExact f c g = WithinOfExact f c (exact_bound f c) g
