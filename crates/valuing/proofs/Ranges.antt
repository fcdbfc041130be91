-- What refusal 5 leaves: amounts, revaluation and so the items are in their ranges.
-- Assumes nothing.
use Rattle.std.proofs.Common.{ℕ, ◌<◌, false, not, ◌&&◌, [], ◌∷◌, ◌≡◌, eqb, ltb, ltb-false}
use Rattle.numbers.proofs.Tests.{or_false, none_holds}
use Rattle.numbers.proofs.Below.{any_false}
use Rattle.numbers.proofs.Lists.{each_not}
use Rattle.cases.specs.Layout.{amounts}
use Rattle.cases.specs.Entries.{line, any_line, amount_in}
use Rattle.refusals.specs.declared.Refusal.TheVariants.{Range}
use Rattle.refusals.proofs.Order.{none_given}
use Rattle.cases.specs.Form.{WellFormed, form_tests, too_large, line_range_fault, head_range_fault, range_fault, status_listed, receiver_listed, sex_listed, dates_range_fault}
use Rattle.cases.specs.Kinds.{rules_of}
use Rattle.cases.specs.declared.Case.{Case}
use Rattle.valuing.specs.Totals.{HeadInRange, LineInRange}

pub in_range : (c : Case) → WellFormed c → range_fault c ≡ false
in_range c w = none_given Range (form_tests false c) w

module _ (c : Case) (sound : range_fault c ≡ false) where
  both : (head_range_fault c ≡ false) × (any_line (line_range_fault (rules_of c.kind) c.count) c ≡ false)
  unfolding range_fault
  both = or_false (head_range_fault c) (any_line (line_range_fault (rules_of c.kind) c.count) c) sound

  pub head_in_range : HeadInRange c
  unfolding head_range_fault
  head_in_range =
      let t =
      none_holds (eqb c.number 0)
      (not (status_listed c.status) ∷ not (receiver_listed c.receiver) ∷ ((rules_of c.kind).sex && not (sex_listed c.sex)) ∷ ltb c.revaluation 10000 ∷ ltb 100000 c.revaluation ∷ too_large c.avc ∷ too_large c.transfer ∷ too_large c.contributions ∷ dates_range_fault c ∷ [])
      both.0 in
      record {
        revaluation = ltb-false 100000 c.revaluation t.1.1.1.1.1.0;
        avc = ltb-false 1000000000 c.avc t.1.1.1.1.1.1.0;
        transfer = ltb-false 1000000000 c.transfer t.1.1.1.1.1.1.1.0;
        contributions = ltb-false 1000000000 c.contributions t.1.1.1.1.1.1.1.1.0;
      }

  pub line_in_range : (i : ℕ) → i < 4 → LineInRange (line c i)
  unfolding line_range_fault
  line_in_range i h =
      each_not (λ a. too_large (amount_in a (line c i))) amounts (λ a. ltb-false 1000000000 (amount_in a (line c i)))
      (or_false _ _ (any_false 4 (λ j. line_range_fault (rules_of c.kind) c.count j (line c j)) both.1 i h)).0

pub formed_in_range : (c : Case) → WellFormed c → HeadInRange c
formed_in_range c w = head_in_range c (in_range c w)
