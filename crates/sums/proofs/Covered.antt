-- What is known where refusals 13 and 14 do not apply: Scheme Pays is covered, and the total is not below zero.
-- Assumes nothing.
use Rattle.std.proofs.Common.{ℕ, ◌≤◌, ◌<◌, false, ◌≡◌, arith, ltb-false}
use Rattle.numbers.proofs.Below.{any_false}
use Rattle.numbers.proofs.Tests.{or_false}
use Rattle.cases.specs.Entries.{line}
use Rattle.cases.specs.declared.Line.{Line}
use Rattle.cases.specs.declared.Case.{Case}
use Rattle.factors.specs.declared.Factors.{Factors}
use Rattle.sums.specs.Sum.{Benefit, member_pension, lump_sum, survivor_pension, entered, revalued, scheme_pays_on, exceeds, scheme_pays_exceeds, scheme_pays_fault, deduction, credit, negative_fault}

pub covered :
    (c : Case) → scheme_pays_fault c ≡ false → (j : ℕ) → j < 4 → (b : Benefit) →
    scheme_pays_on b (line c j) ≤ revalued c.revaluation (entered b (line c j))
unfolding scheme_pays_fault
covered c e j h = go (or_false (exceeds v l member_pension) (exceeds v l lump_sum) (any_false 4 (λ i. scheme_pays_exceeds v (line c i)) e j h))
  where
    v : ℕ
    v = c.revaluation

    l : Line
    l = line c j

    go : (exceeds v l member_pension ≡ false) × (exceeds v l lump_sum ≡ false) → (b : Benefit) → scheme_pays_on b l ≤ revalued v (entered b l)
    go both member_pension = ltb-false _ _ both.0
    go both lump_sum = ltb-false _ _ both.1
    go both survivor_pension = omega arith

pub not_negative : (f : ℕ → Factors) (c : Case) → negative_fault f c ≡ false → deduction f c ≤ credit f c
unfolding negative_fault
not_negative f c e = ltb-false _ _ e
