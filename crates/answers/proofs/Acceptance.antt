-- What acceptance gives: the payment, and what makes up the first value.
-- Assumes nothing.
use Rattle.std.proofs.Common.{◌+◌, false, ◌≡◌, refl, ap, ◌∙◌}
use Rattle.refusals.proofs.Order.{none_first, none_given}
use Rattle.refusals.specs.declared.Refusal.TheVariants.{Reserved, Award}
use Rattle.cases.specs.Kinds.{rules_of}
use Rattle.cases.proofs.Transfers.{no_transfer_flag}
use Rattle.cases.specs.declared.Case.{Case}
use Rattle.sums.specs.Rows.{factors_of}
use Rattle.sums.specs.Sum.{first_value, debit_value}
use Rattle.sums.specs.Payment.{payment}
use Rattle.sums.proofs.Divorce.{gross_and_debit}
use Rattle.sums.proofs.Payment.{payment_unflagged}
use Rattle.answers.specs.declared.Outcome.TheVariants.{Paid}
use Rattle.answers.specs.Answer.{Accepted, tests, gross_of, items_of, answer_of, paid}

pub accepted_paid : (c : Case) → Accepted c → answer_of c ≡ Paid (items_of c)
unfolding answer_of
accepted_paid c n = rw (none_first (tests c) n)

-- steps 5 and 6 make the payment of the gross value
pub accepted_payment : (c : Case) → Accepted c → paid (answer_of c) ≡ payment c (gross_of c)
unfolding items_of
accepted_payment c n = ap paid (accepted_paid c n)

-- of a kind without transfers that is the gross value and the AVC
pub accepted_gross : (c : Case) → (rules_of c.kind).transfers ≡ false → Accepted c → paid (answer_of c) ≡ gross_of c + c.avc
unfolding tests
accepted_gross c k n = accepted_payment c n ∙ payment_unflagged c (gross_of c) (no_transfer_flag c k (none_given Reserved (tests c) n))

-- so it is of kind 1, the 1995 section, and of kind 3, the 2008 section
pub section_1995_paid : (c : Case) → c.kind ≡ 1 → Accepted c → paid (answer_of c) ≡ gross_of c + c.avc
unfolding rules_of
section_1995_paid c k = accepted_gross c (rw k refl)

pub section_2008_paid : (c : Case) → c.kind ≡ 3 → Accepted c → paid (answer_of c) ≡ gross_of c + c.avc
unfolding rules_of
section_2008_paid c k = accepted_gross c (rw k refl)

-- the gross value and the debit value make up the first value
pub accepted_divorce : (c : Case) → Accepted c → gross_of c + debit_value (factors_of c) c ≡ first_value (factors_of c) c
unfolding gross_of tests
accepted_divorce c n = gross_and_debit (factors_of c) c (none_given Award (tests c) n)
