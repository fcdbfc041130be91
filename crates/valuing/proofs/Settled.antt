-- The totals of a case over its lines are those of the sum: refusal 14, the first value, the debit value and the items.
-- Assumes nothing.
use Rattle.std.proofs.Common.{ℕ, ◌+◌, ◌-◌, Bool, true, false, cond, Ok, Err, ◌≡◌, refl, sym, ap, ◌∙◌, arith, ltb}
use Rattle.numbers.specs.Rounding.{nearest}
use Rattle.refusals.specs.declared.Refusal.TheVariants.{Negative}
use Rattle.refusals.proofs.Order.{passed_number}
use Rattle.cases.specs.declared.Case.{Case}
use Rattle.sums.specs.Rows.{factors_of}
use Rattle.sums.specs.Sum.{valued_on, deduction, credit, negative_fault, first_value, debit_value, gross_by}
use Rattle.sums.specs.Payment.{payment, underpin}
use Rattle.answers.specs.Answer.{gross_of, items_of}
use Rattle.answers.specs.declared.Items.{Items}
use Rattle.valuing.specs.Totals.{TotalsBelow, rest_of}
use Rattle.valuing.specs.declared.sum.Totals.{Totals}

module _ (c : Case) (t : Totals) (carried : TotalsBelow c 4 t) where
  abbrev pub added : ℕ
  added = t.pension + t.lump + t.survivor

  credit_is : added ≡ credit (factors_of c) c
  unfolding credit valued_on
  credit_is = rw (carried.pension, carried.lump, carried.survivor)

  deduction_is : t.deduction ≡ deduction (factors_of c) c
  unfolding deduction
  deduction_is = carried.deduction

  pub negative_is : negative_fault (factors_of c) c ≡ ltb added t.deduction
  unfolding negative_fault
  negative_is = rw (credit_is, deduction_is)

  pub first_value_is : first_value (factors_of c) c ≡ nearest 100 (added - t.deduction)
  unfolding first_value
  first_value_is = rw (credit_is, deduction_is)

  pub debit_is : nearest 100 t.debit ≡ debit_value (factors_of c) c
  unfolding debit_value valued_on
  debit_is = ap (nearest 100) carried.debit

  -- what the signed total tells
  pub below_zero_lem : Err Negative ≡ rest_of added t.deduction → negative_fault (factors_of c) c ≡ true
  below_zero_lem e = negative_is ∙ go (ltb added t.deduction) e
    where
      go : (s : Bool) → Err Negative ≡ cond s (Err Negative) (Ok (added - t.deduction)) → s ≡ true
      go true e = refl
      go false e = absurd (let z : ◌≡◌ {A = ℕ} 0 1 = cc in omega arith)

  pub left_over : (n : ℕ) → Ok n ≡ rest_of added t.deduction → (negative_fault (factors_of c) c ≡ false) × (nearest 100 n ≡ first_value (factors_of c) c)
  left_over n e =
      let left = passed_number (ltb added t.deduction) Negative (added - t.deduction) e in
      (negative_is ∙ left.0, ap (nearest 100) (sym left.1) ∙ sym first_value_is)

  -- the items, where n is left of the first value
  abbrev items_left : ℕ → Items
  items_left n =
      record {
        payment = payment c n;
        pension = t.pension;
        lump = t.lump;
        survivor = t.survivor;
        deduction = t.deduction;
        underpin = underpin c;
        avc = c.avc;
      }

  pub items_are : (first : ℕ) → first ≡ first_value (factors_of c) c → items_left (first - nearest 100 t.debit) ≡ items_of c
  unfolding items_of gross_of gross_by valued_on
  items_are first e = λ i.
      record {
        payment = payment c (e i - debit_is i);
        pension = carried.pension i;
        lump = carried.lump i;
        survivor = carried.survivor i;
        deduction = deduction_is i;
        underpin = underpin c;
        avc = c.avc;
      }
