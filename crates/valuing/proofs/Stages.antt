-- The tests in stages: the later ones are asked only where none of the earlier applies.
-- Assumes nothing.
use Rattle.std.proofs.Common.{Bool, true, false, cond, List, [], ◌∷◌, ◌++◌, Ok, Err, ◌≡◌, refl, sym, ap, ◌∙◌}
use Rattle.std.specs.Result.{result_and}
use Rattle.refusals.specs.Tests.{Test, ◌gives◌, Verdict, first}
use Rattle.refusals.specs.declared.Refusal.{Refusal}
use Rattle.refusals.specs.declared.Refusal.TheVariants.{Factor, Debit, Negative, Award}
use Rattle.refusals.proofs.Order.{first_append, first_none, first_past, first_stays}
use Rattle.cases.specs.Form.{form_tests, WellFormed}
use Rattle.cases.specs.declared.Case.{Case}
use Rattle.sums.specs.Rows.{factors_of}
use Rattle.sums.specs.Sum.{negative_fault, award_fault, scheme_pays_fault}
use Rattle.entitlement.specs.Entitlement.{entitlement_tests}
use Rattle.answers.specs.Answer.{factor_fault, amount_tests, tests, items_of, outcome_of, outcome_by, answer_of}
use Rattle.valuing.specs.Totals.{unless_negative, unless_award}
use Rattle.answers.specs.declared.Outcome.TheVariants.{Refused}

-- of a case whose form is refused
pub by_form : (c : Case) (why : Refusal) → first (form_tests false c) ≡ Err why → Refused why ≡ answer_of c
unfolding answer_of tests
by_form c why e = ap (λ (v : Verdict). outcome_by v c) (sym (first_stays (form_tests false c) (entitlement_tests c ++ amount_tests c) e))

-- of one that is well formed: the verdict on entitlement, else the amounts
pub by_stages : (c : Case) → WellFormed c → (v : Verdict) → v ≡ first (entitlement_tests c) → outcome_by (result_and v (first (amount_tests c))) c ≡ answer_of c
unfolding answer_of tests
by_stages c w v e =
    ap (λ (u : Verdict). outcome_by (result_and u (first (amount_tests c))) c) e
    ∙ ap (λ (u : Verdict). outcome_by u c)
    (sym (first_past (form_tests false c) (entitlement_tests c ++ amount_tests c) w ∙ first_append (entitlement_tests c) (amount_tests c)))

-- the tests of amounts before the total is known, and those on it
module _ (c : Case) where
  abbrev pub earlier : List Test
  earlier = (factor_fault c gives Factor) ∷ (scheme_pays_fault c gives Debit) ∷ []

  abbrev last : List Test
  last = (negative_fault (factors_of c) c gives Negative) ∷ (award_fault (factors_of c) c gives Award) ∷ []

  pub by_earlier : (why : Refusal) → first earlier ≡ Err why → Refused why ≡ outcome_by (first (amount_tests c)) c
  by_earlier why e = ap (λ (v : Verdict). outcome_by v c) (sym (first_stays earlier last e))

  pub by_total : first earlier ≡ Ok tt →
      outcome_of (unless_negative c (unless_award c (Ok (items_of c)))) ≡ outcome_by (first (amount_tests c)) c
  by_total e =
      go (negative_fault (factors_of c) c) (award_fault (factors_of c) c)
      ∙ ap (λ (v : Verdict). outcome_by v c) (sym (first_past earlier last (first_none earlier e)))
    where
      go : (s t : Bool) → outcome_of (cond s (Err Negative) (cond t (Err Award) (Ok (items_of c)))) ≡ outcome_by (first ((s gives Negative) ∷ (t gives Award) ∷ [])) c
      go true t = refl
      go false true = refl
      go false false = refl
