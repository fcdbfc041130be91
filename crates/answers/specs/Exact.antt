-- How far the gross value of a case lies from its exact value (change request No. 14).
-- Assumes nothing.
use Rattle.std.specs.Prelude.{◌≡◌}
use Rattle.cases.specs.declared.Case.{Case}
use Rattle.sums.specs.Rows.{factors_of}
use Rattle.sums.specs.Exact.{NearExact}
use Rattle.sums.specs.Payment.{payment}
use Rattle.answers.specs.declared.Outcome.{Outcome}
use Rattle.answers.specs.Answer.{Accepted, gross_of, paid}

-- of a case c that valuing answers with r: if c is accepted, r pays what steps 5 and 6 make of the gross value, and the gross value
-- lies near the exact value
abbrev pub GrossNearExact : Case → Outcome → Type 0
GrossNearExact c r = Accepted c → (paid r ≡ payment c (gross_of c)) × NearExact (factors_of c) c (gross_of c)
