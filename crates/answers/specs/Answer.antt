-- Valuing a case: its refusals in their order, and the payment with its items.
-- Assumes nothing.
use Rattle.std.specs.Prelude.{ℕ, Bool, false, List, [], ◌∷◌, ◌++◌, Option, Some, None, Result, Ok, Err}
use Rattle.refusals.specs.Refusals.{number_of}
use Rattle.refusals.specs.Tests.{Test, ◌gives◌, Verdict, first, NoneOf}
use Rattle.refusals.specs.declared.Refusal.{Refusal}
use Rattle.refusals.specs.declared.Refusal.TheVariants.{Factor, Debit, Negative, Award}
use Rattle.cases.specs.Entries.{any_line}
use Rattle.cases.specs.Form.{form_tests}
use Rattle.cases.specs.declared.Case.{Case}
use Rattle.factors.specs.Rows.{absent}
use Rattle.sums.specs.Rows.{row_of, factors_of}
use Rattle.sums.specs.Sum.{member_pension, lump_sum, survivor_pension, item, deduction, negative_fault, award_fault, gross_by, scheme_pays_fault}
use Rattle.sums.specs.Payment.{underpin, payment}
use Rattle.entitlement.specs.Entitlement.{entitlement_tests}
use Rattle.answers.specs.declared.Items.{Items}
use Rattle.answers.specs.declared.Outcome.{Outcome}
use Rattle.answers.specs.declared.Outcome.TheVariants.{Paid, Refused}

-- 12 factor: no row
unfoldable pub factor_fault : Case → Bool
factor_fault c = any_line (λ i l. absent (row_of c i)) c

-- 13 debit: Scheme Pays above what it reduces; 14 negative: the total is below zero before it is rounded; 16 award: the debit value
-- is above the first value
abbrev pub amount_tests : Case → List Test
amount_tests c =
    (factor_fault c gives Factor) ∷
    (scheme_pays_fault c gives Debit) ∷
    (negative_fault (factors_of c) c gives Negative) ∷
    (award_fault (factors_of c) c gives Award) ∷ []

-- valuing's refusals in their order, stage after stage: the case's form, the member's entitlement, the amounts
unfoldable pub tests : Case → List Test
tests c = form_tests false c ++ entitlement_tests c ++ amount_tests c

-- the gross value, from the case alone
unfoldable pub gross_of : Case → ℕ
gross_of c = gross_by (factors_of c) c

-- the payment with its items, over all lines; a divorce debit shows in the payment and in no item
unfoldable pub items_of : Case → Items
items_of c =
    record {
      payment = payment c (gross_of c);
      pension = item (factors_of c) c member_pension;
      lump = item (factors_of c) c lump_sum;
      survivor = item (factors_of c) c survivor_pension;
      deduction = deduction (factors_of c) c;
      underpin = underpin c;
      avc = c.avc;
    }

-- the outcome of working out a payment
abbrev pub outcome_of : Result Items Refusal → Outcome
outcome_of (Ok m) = Paid m
outcome_of (Err r) = Refused r

-- what a verdict makes of a case: the refusal, or the payment
abbrev pub outcome_by : Verdict → Case → Outcome
outcome_by (Ok u) c = Paid (items_of c)
outcome_by (Err r) c = Refused r

-- the answer to a case
unfoldable pub answer_of : Case → Outcome
answer_of c = outcome_by (first (tests c)) c

-- 01's *accepted*: none of valuing's refusals applies to the case
abbrev pub Accepted : Case → Type 0
Accepted c = NoneOf (tests c)

-- the outcome in the numbers of the answer: 0 and the amounts of a payment, or the refusal's number
abbrev pub outcome_numbers : Outcome → List ℕ
outcome_numbers (Paid m) =
    0 ∷ m.payment ∷ m.pension ∷ m.lump ∷ m.survivor ∷ m.deduction ∷ m.underpin ∷ m.avc ∷ []
outcome_numbers (Refused r) = number_of r ∷ []

-- what an outcome pays, if anything
abbrev pub payment_of : Outcome → Option ℕ
payment_of (Paid m) = Some m.payment
payment_of (Refused r) = None

-- and where nothing, 0
abbrev pub paid : Outcome → ℕ
paid (Paid m) = m.payment
paid (Refused r) = 0
