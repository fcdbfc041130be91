-- The gross value of an accepted case lies near its exact value.
-- Assumes nothing.
use Rattle.std.proofs.Common.{ℕ, ◌+◌, ◌*◌, ◌≡◌}
use Rattle.refusals.proofs.Order.{none_given}
use Rattle.refusals.specs.declared.Refusal.TheVariants.{Debit, Negative, Award}
use Rattle.cases.specs.Entries.{line}
use Rattle.cases.specs.declared.Case.{Case}
use Rattle.sums.specs.Rows.{factors_of}
use Rattle.sums.specs.Sum.{Benefit, entered, debited}
use Rattle.sums.specs.Exact.{WithinOfExact, factors_on}
use Rattle.sums.proofs.Exact.{gross_near_exact, near_exact_without_divorce}
use Rattle.answers.specs.Answer.{Accepted, tests, gross_of, answer_of}
use Rattle.answers.specs.Exact.{GrossNearExact}
use Rattle.answers.proofs.Acceptance.{accepted_payment}

pub answer_near_exact : (c : Case) → GrossNearExact c (answer_of c)
unfolding gross_of tests
answer_near_exact c n = (
  accepted_payment c n,
  gross_near_exact (factors_of c) c (none_given Debit (tests c) n) (none_given Negative (tests c) n) (none_given Award (tests c) n),
)

-- without a divorce debit, within a bound that is half a penny less
pub accepted_near_without_divorce :
    (c : Case) → Accepted c → ((b : Benefit) (j : ℕ) → debited b (line c j) ≡ 0) →
    WithinOfExact (factors_of c) c (factors_on (factors_of c) (λ i b. entered b (line c i)) * 5000 + 500000) (gross_of c)
unfolding gross_of tests
accepted_near_without_divorce c n =
    near_exact_without_divorce (factors_of c) c (none_given Debit (tests c) n) (none_given Negative (tests c) n)
