-- The order of gross values and payments: where no line of a case is worse than another case's, nor is what it is worth.
-- Assumes nothing.
use Rattle.std.proofs.Common.{ℕ, ◌≤◌, false, ◌≡◌, mul-le-mul_right, arith, lit<}
use Rattle.numbers.proofs.Rounding.{nearest_mono}
use Rattle.numbers.proofs.Below.{sum_mono}
use Rattle.cases.specs.Entries.{line}
use Rattle.cases.specs.declared.Line.{Line}
use Rattle.cases.specs.declared.Case.{Case}
use Rattle.factors.specs.declared.Factors.{Factors}
use Rattle.sums.specs.Sum.{Benefit, member_pension, lump_sum, survivor_pension, entered, revalued, scheme_pays_on, reduced, debited, revalued_debit, valued_on, item, deduction, credit, first_value, debit_value, award_fault, gross_by}
use Rattle.sums.specs.Payment.{payment}
use Rattle.sums.proofs.Divorce.{gross_and_debit}

-- P of each benefit
abbrev pub each : (Benefit → Type 0) → Type 0
each P = P member_pension × P lump_sum × P survivor_pension

pub of_each : (P : Benefit → Type 0) → each P → (b : Benefit) → P b
of_each P p member_pension = p.0
of_each P p lump_sum = p.1
of_each P p survivor_pension = p.2

-- line m is no worse than line l: each benefit is at least, each debit and the modification at most that of l
pub record NoWorse (l m : Line) : Type 0 where
  pub benefits : each (λ b. entered b l ≤ entered b m)
  pub scheme_pays : each (λ b. scheme_pays_on b m ≤ scheme_pays_on b l)
  pub modification : m.modification ≤ l.modification
  pub divorce_debit : each (λ b. debited b m ≤ debited b l)

pub no_worse_same : (l : Line) → NoWorse l l
no_worse_same l = omega arith

pub revalued_mono : (v : ℕ) {x y : ℕ} → x ≤ y → revalued v x ≤ revalued v y
revalued_mono v h = nearest_mono (lit< tt) (mul-le-mul_right v h)

pub reduced_mono : (v : ℕ) (l m : Line) → NoWorse l m → (b : Benefit) → reduced v l b ≤ reduced v m b
reduced_mono v l m w b =
    omega (arith, revalued_mono v (of_each (λ b. entered b l ≤ entered b m) w.benefits b), of_each (λ b. scheme_pays_on b m ≤ scheme_pays_on b l) w.scheme_pays b)

-- where no amount is smaller, nor is their value
pub valued_mono : (f : ℕ → Factors) (x y : ℕ → Benefit → ℕ) (b : Benefit) → ((j : ℕ) → x j b ≤ y j b) → valued_on f x b ≤ valued_on f y b
unfolding valued_on
valued_mono f x y b h = sum_mono 4 _ _ (λ j k. mul-le-mul_right _ (h j))

pub deduction_mono : (f : ℕ → Factors) (c d : Case) → ((j : ℕ) → NoWorse (line c j) (line d j)) → deduction f d ≤ deduction f c
unfolding deduction
deduction_mono f c d w = sum_mono 4 _ _ (λ j h. mul-le-mul_right (f j).deduction (w j).modification)

-- two cases with the same revaluation factor
module _ (f : ℕ → Factors) (c d : Case) (rate : c.revaluation ≡ d.revaluation) where
  -- where no divorce debit of d is larger, nor is the debit value
  pub debit_mono : ((j : ℕ) → each (λ b. debited b (line d j) ≤ debited b (line c j))) → debit_value f d ≤ debit_value f c
  unfolding debit_value
  debit_mono h = nearest_mono (lit< tt) (omega (arith, value member_pension, value lump_sum, value survivor_pension))
    where
      value : (b : Benefit) → valued_on f (λ j. revalued_debit d.revaluation (line d j)) b ≤ valued_on f (λ j. revalued_debit c.revaluation (line c j)) b
      value b = rw rate (valued_mono f _ _ b (λ j. revalued_mono d.revaluation (of_each (λ x. debited x (line d j) ≤ debited x (line c j)) (h j) b)))

  -- where no line of d is worse
  module _ (w : (j : ℕ) → NoWorse (line c j) (line d j)) where
    pub items_mono : (b : Benefit) → item f c b ≤ item f d b
    items_mono b = rw rate (valued_mono f _ _ b (λ j. reduced_mono d.revaluation (line c j) (line d j) (w j) b))

    pub first_mono : first_value f c ≤ first_value f d
    unfolding first_value credit
    first_mono =
        nearest_mono (lit< tt) (omega (arith, items_mono member_pension, items_mono lump_sum, items_mono survivor_pension, deduction_mono f c d w))

    pub gross_mono : (award_fault f c ≡ false) × (award_fault f d ≡ false) → gross_by f c ≤ gross_by f d
    gross_mono none = omega (arith, first_mono, debit_mono (λ j. (w j).divorce_debit), gross_and_debit f c none.0, gross_and_debit f d none.1)

-- steps 5 and 6 keep the order
pub payment_mono : (c : Case) {g h : ℕ} → g ≤ h → payment c g ≤ payment c h
unfolding payment
payment_mono c p = omega arith
