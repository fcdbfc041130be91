-- A divorce debit: where refusal 16 does not apply, the gross value and the debit value make up the first value; and a case without a
-- divorce debit is not refused with 16, and its gross value is the first value.
-- Assumes nothing.
use Rattle.std.proofs.Common.{ℕ, ◌+◌, false, ◌≡◌, refl, zero-mul, arith, ltb-false, le-ltb}
use Rattle.numbers.specs.Below.{sum_below}
use Rattle.numbers.specs.Rounding.{nearest}
use Rattle.cases.specs.Entries.{line}
use Rattle.cases.specs.declared.Case.{Case}
use Rattle.factors.specs.declared.Factors.{Factors}
use Rattle.sums.specs.Sum.{Benefit, member_pension, lump_sum, survivor_pension, revalued, debited, over_benefits, valued_on, first_value, debit_value, award_fault, gross_by}

pub gross_and_debit : (f : ℕ → Factors) (c : Case) → award_fault f c ≡ false → gross_by f c + debit_value f c ≡ first_value f c
unfolding award_fault gross_by
gross_and_debit f c e = omega (arith, ltb-false (first_value f c) (debit_value f c) e)

-- amounts of 0 are worth 0
pub revalued_none : (v : ℕ) → revalued v 0 ≡ 0
unfolding nearest
revalued_none v = rw (zero-mul v) refl

pub no_value : (f : ℕ → Factors) (x : ℕ → Benefit → ℕ) (b : Benefit) → ((j : ℕ) → x j b ≡ 0) → valued_on f x b ≡ 0
unfolding valued_on sum_below
no_value f x b h = simp (h, zero-mul)

module _ (f : ℕ → Factors) (c : Case) (none : (b : Benefit) (j : ℕ) → debited b (line c j) ≡ 0) where
  -- what g makes of the debits is worth 0, where g makes 0 of 0
  pub no_debits : (g : ℕ → ℕ) → g 0 ≡ 0 → over_benefits (valued_on f (λ i b. g (debited b (line c i)))) ≡ 0
  no_debits g e = omega (arith, value member_pension, value lump_sum, value survivor_pension)
    where
      value : (b : Benefit) → valued_on f (λ i d. g (debited d (line c i))) b ≡ 0
      value b = no_value f _ b (λ j. rw (none b j) e)

  no_debit : debit_value f c ≡ 0
  unfolding debit_value nearest
  no_debit = rw (no_debits (revalued c.revaluation) (revalued_none c.revaluation)) refl

  pub without_divorce : (award_fault f c ≡ false) × (gross_by f c ≡ first_value f c)
  unfolding award_fault gross_by
  without_divorce = (le-ltb (first_value f c) (debit_value f c) (omega (arith, no_debit)), omega (arith, no_debit))
