-- What refusals 3 and 4 leave of the lines of a case: at most four, and those past the count are zero. A line of zeros breaks no rule.
-- Assumes nothing.
use Rattle.std.proofs.Common.{ℕ, ◌≤◌, ◌<◌, Bool, false, not, ◌&&◌, ◌||◌, List, [], ◌∷◌, ◌≡◌, refl, arith, eqb, leb, leb-true, le-leb, lt-ltb, le-ltb, eqb-true}
use Rattle.std.proofs.Math.Bool.{and-eq-true_iff, and-true, and-false, or-false}
use Rattle.std.proofs.lemmas.Bool.{not-false}
use Rattle.numbers.specs.Lists.{any, Each}
use Rattle.numbers.proofs.Tests.{and_right_false, or_false}
use Rattle.numbers.proofs.Below.{any_false}
use Rattle.numbers.proofs.Lists.{each, of_listed, none_every}
use Rattle.calendar.specs.Dates.{is_real, is_zero}
use Rattle.cases.specs.Layout.{Amount, amount_discrete, amounts, additional, dependant, lump, modification, scheme_pays_lump, debit_lump}
use Rattle.cases.specs.Entries.{line, any_line, amount_in}
use Rattle.cases.specs.Kinds.{rules_of}
use Rattle.cases.specs.Form.{kind_fault, too_large, any_filled, line_filled, reserved_filled, line_reserved_fault, line_range_fault, head_reserved_fault, reserved_fault}
use Rattle.cases.proofs.Entries.{amount_listed}
use Rattle.cases.proofs.RowsOfKinds.{four_lines}
use Rattle.cases.specs.declared.Line.{Line}
use Rattle.cases.specs.declared.Case.{Case}
use Rattle.cases.specs.declared.Rules.{Rules}

pub few_lines : (kind count : ℕ) → kind_fault kind count ≡ false → count ≤ 4
unfolding kind_fault
few_lines kind count e =
    let allowed = not-false (leb 1 count && leb count (rules_of kind).lines) e in
    omega (arith, leb-true count (rules_of kind).lines ((and-eq-true_iff (leb 1 count) (leb count (rules_of kind).lines)).0 allowed).1, four_lines kind)

pub zero_past : (c : Case) → reserved_fault c ≡ false → (i : ℕ) → i < 4 → c.count ≤ i → line_filled (line c i) ≡ false
unfolding reserved_fault line_reserved_fault
zero_past c e i h p =
    let l = line c i in
    let r = rules_of c.kind in
    let lines = (or_false (head_reserved_fault c) (any_line (line_reserved_fault r c.flags c.count) c) e).1 in
    let tests =
    or_false (leb c.count i && line_filled l) (reserved_filled r c.flags i l)
    (any_false 4 (λ j. line_reserved_fault r c.flags c.count j (line c j)) lines i h) in
    and_right_false (leb c.count i) (line_filled l) (le-leb c.count i p) tests.0

-- each amount of a line of zeros is zero
zero_amount : (l : Line) → line_filled l ≡ false → (a : Amount) → amount_in a l ≡ 0
unfolding line_filled
zero_amount l z a =
    let zero : Amount → Bool = λ b. eqb (amount_in b l) 0 in
    let none = (or_false (not (is_zero l.date)) (any_filled amounts l) z).1 in
    eqb-true (amount_in a l) 0 (of_listed amount_discrete zero a amounts (amount_listed a) (none_every zero amounts none))

pub zero_amounts : (l : Line) → line_filled l ≡ false → Each amounts (λ a. amount_in a l ≡ 0)
zero_amounts l z = each amounts (zero_amount l z)

-- nothing in it is what its kind, flags or place forbid, and no amount is above the limit
pub zero_reserved : (rules : Rules) (flags i : ℕ) (l : Line) → line_filled l ≡ false → reserved_filled rules flags i l ≡ false
unfolding line_filled reserved_filled
zero_reserved rules flags i l z =
    let date = (or_false (not (is_zero l.date)) (any_filled amounts l) z).0 in
    let n = zero_amount l z in
    rw (date, n lump, n scheme_pays_lump, n debit_lump, n modification, n additional, n dependant) (simp and-false)

pub zero_range : (l : Line) → line_filled l ≡ false → any (λ a. too_large (amount_in a l)) amounts ≡ false
zero_range l z = none amounts
  where
    none : (some : List Amount) → any (λ a. too_large (amount_in a l)) some ≡ false
    none [] = refl
    none (a ∷ some) = rw (zero_amount l z a) (none some)

-- a line's range by whether it stands within the count
module _ (rules : Rules) (count i : ℕ) (l : Line) where
  pub range_within : i < count → line_range_fault rules count i l ≡ (any (λ a. too_large (amount_in a l)) amounts || (rules.dated && not (is_real l.date)))
  unfolding line_range_fault
  range_within h = rw (lt-ltb i count h, and-true rules.dated)

  pub range_past : count ≤ i → line_range_fault rules count i l ≡ any (λ a. too_large (amount_in a l)) amounts
  unfolding line_range_fault
  range_past h = rw (le-ltb i count h, and-false rules.dated) (or-false (any (λ a. too_large (amount_in a l)) amounts))

  -- past the count, a line of zeros breaks nothing
  pub zero_faults : (flags : ℕ) → count ≤ i → line_filled l ≡ false → (line_reserved_fault rules flags count i l ≡ false) × (line_range_fault rules count i l ≡ false)
  unfolding line_reserved_fault
  zero_faults flags h z = (rw (z, le-leb count i h, zero_reserved rules flags i l z) refl, rw (range_past h) (zero_range l z))
