-- The lines past the count, where refusals 3 and 4 do not apply, add nothing to the totals.
-- Assumes nothing.
use Rattle.std.proofs.Common.{ℕ, zero, suc, ◌+◌, ◌-◌, ◌≤◌, ◌<◌, false, ◌≡◌, mul-zero, add-zero, arith, le-leb, le-ltb}
use Rattle.std.proofs.Math.Bool.{or-false}
use Rattle.numbers.proofs.Below.{sum_more, any_more}
use Rattle.cases.specs.Entries.{line}
use Rattle.cases.specs.Form.{form_tests, WellFormed}
use Rattle.cases.specs.declared.Case.{Case}
use Rattle.refusals.specs.declared.Refusal.TheVariants.{Kind, Reserved}
use Rattle.refusals.proofs.Order.{none_given}
use Rattle.cases.proofs.PastCount.{few_lines, zero_past, zero_amounts}
use Rattle.sums.specs.Rows.{row_of, factors_of}
use Rattle.sums.specs.Sum.{member_pension, lump_sum, survivor_pension, entered, revalued, revalued_debit, scheme_pays_exceeds}
use Rattle.valuing.specs.Totals.{TotalsBelow}
use Rattle.valuing.specs.declared.sum.Totals.{Totals}
use Rattle.valuing.proofs.Carried.{valued_more}

module _ (c : Case) (well : WellFormed c) where
  pub four_at_most : c.count ≤ 4
  four_at_most = few_lines c.kind c.count (none_given Kind (form_tests false c) well)

  no_scheme_pays : (i : ℕ) → i < 4 → c.count ≤ i → scheme_pays_exceeds c.revaluation (line c i) ≡ false
  no_scheme_pays i h p =
      let l = line c i in
      let d = zero_amounts l (zero_past c (none_given Reserved (form_tests false c) well) i h p) in
      rw (
        le-ltb (revalued c.revaluation (entered member_pension l)) l.scheme_pays (omega arith),
        le-ltb (revalued c.revaluation (entered lump_sum l)) l.scheme_pays_lump (omega arith),
      )

  past : (i : ℕ) (t : Totals) → i < 4 → c.count ≤ i → TotalsBelow c i t → TotalsBelow c (i + 1) t
  unfolding factors_of row_of
  past i t h p b =
      let q = le-leb c.count i p in
      let debit = valued_more c i revalued_debit in
      record {
        pension = rw (sum_more, b.pension, q, mul-zero, add-zero);
        lump = rw (sum_more, b.lump, q, mul-zero, add-zero);
        survivor = rw (sum_more, b.survivor, q, mul-zero, add-zero);
        deduction = rw (sum_more, b.deduction, q, mul-zero, add-zero);
        debit = rw (debit member_pension, debit lump_sum, debit survivor_pension, b.debit, q) (simp (mul-zero, add-zero));
        missing = rw (any_more, b.missing, q, or-false);
        excess = rw (any_more, b.excess, no_scheme_pays i h p, or-false);
        bounded = omega (arith, b.bounded);
      }

  up : (d i : ℕ) (t : Totals) → i + d ≡ 4 → c.count ≤ i → TotalsBelow c i t → TotalsBelow c 4 t
  up zero i t e p b = let q : i ≡ 4 = omega arith in rw (← q) b
  up (suc d) i t e p b = up d (i + 1) t (omega arith) (omega arith) (past i t (omega arith) p b)

  pub totals_all : (i : ℕ) (t : Totals) → c.count ≤ i → i ≤ 4 → TotalsBelow c i t → TotalsBelow c 4 t
  totals_all i t p h b = up (4 - i) i t (omega arith) p b
