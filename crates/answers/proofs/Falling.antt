-- In an accepted case of the 2015 scheme every line is dated before all the lines above it. Refusal 6 compares each line with
-- the first, and 17 each of the others with the one above it; the rest follows, since the order of dates is transitive.
-- Assumes nothing.
use Rattle.std.proofs.Common.{ℕ, zero, suc, ◌-◌, ◌≤◌, ◌<◌, true, false, not, ◌&&◌, ◌||◌, ◌≡◌, refl, arith, leb, ltb, lt-ltb, le-leb}
use Rattle.std.proofs.Math.Decide.{ℕ_discrete}
use Rattle.std.proofs.Math.Numerals.{unary_clauses}
use Rattle.std.proofs.lemmas.Bool.{not-false}
use Rattle.numbers.proofs.Below.{any_false}
use Rattle.numbers.proofs.Tests.{and_right_false, or_false}
use Rattle.calendar.specs.Dates.{before}
use Rattle.calendar.proofs.Order.{before_transitive}
use Rattle.calendar.specs.Moving.{moved_on}
use Rattle.calendar.specs.declared.Date.{Date}
use Rattle.refusals.proofs.Order.{none_given}
use Rattle.refusals.specs.declared.Refusal.TheVariants.{Kind, Dates, Order}
use Rattle.cases.specs.Entries.{line}
use Rattle.cases.specs.Kinds.{rules_of}
use Rattle.cases.specs.declared.Case.{Case}
use Rattle.cases.proofs.PastCount.{few_lines}
use Rattle.entitlement.specs.Entitlement.{misplaced, dates_fault, out_of_order, order_fault}
use Rattle.answers.specs.Answer.{Accepted, tests}

module _ (c : Case) (dated : (rules_of c.kind).dated ≡ true) where
  -- what either test tells of a line at place m or later, within the count
  within : (m i : ℕ) (d e : Date) → m ≤ i → i < c.count → (leb m i && ltb i c.count && not (before d e)) ≡ false → before d e ≡ true
  within m i d e f n none =
      let both : (leb m i && ltb i c.count) ≡ true = rw (le-leb m i f, lt-ltb i c.count n) in
      not-false (before d e) (and_right_false (leb m i && ltb i c.count) (not (before d e)) both none)

  -- by 6
  before_first : dates_fault c ≡ false → (j : ℕ) → 1 ≤ j → j < c.count → j < 4 → before (line c j).date (line c 0).date ≡ true
  before_first e j f n b =
      let early = before (line c 0).date (moved_on 65 c.birth) in
      let left = not (before c.birth c.leaving) || before c.guarantee c.leaving in
      let lines = and_right_false (rules_of c.kind).dated _ dated (or_false left _ e).1 in
      within 1 j (line c j).date (line c 0).date f n (any_false 4 (λ i. misplaced c i (line c i)) (or_false early _ lines).1 j b)

  module _ (ordered : order_fault c ≡ false) where
    -- by 17, two neighbours
    before_previous : (i : ℕ) → 2 ≤ i → i < c.count → i < 4 → before (line c i).date (line c (i - 1)).date ≡ true
    before_previous i f n b =
        let lines = and_right_false (rules_of c.kind).dated _ dated ordered in
        within 2 i (line c i).date (line c (i - 1)).date f n (any_false 4 (λ j. out_of_order c j (line c j)) lines i b)

    -- and so any two after the first
    falling : (i j : ℕ) → 1 ≤ i → i < j → j < c.count → j < 4 → before (line c j).date (line c i).date ≡ true
    falling i zero f h n b = absurd (omega arith)
    falling i (suc k) f h n b = go (ℕ_discrete i k) (λ q. falling i k f q (omega arith) (omega arith))
      where
        next : before (line c (suc k)).date (line c k).date ≡ true
        next = simp unary_clauses at (before_previous (suc k) (omega arith) n b)

        go : Dec (i ≡ k) → (i < k → before (line c k).date (line c i).date ≡ true) → before (line c (suc k)).date (line c i).date ≡ true
        go (yes p) earlier = rw p next
        go (no q) earlier = before_transitive (line c (suc k)).date (line c k).date (line c i).date next (earlier (omega arith))

pub accepted_lines_fall : (c : Case) → c.kind ≡ 2 → Accepted c
    → (i j : ℕ) → i < j → j < c.count → before (line c j).date (line c i).date ≡ true
unfolding tests rules_of
accepted_lines_fall c k n i j h b = go i h
  where
    dated : (rules_of c.kind).dated ≡ true
    dated = rw k refl

    four : j < 4
    four = omega (arith, few_lines c.kind c.count (none_given Kind (tests c) n))

    go : (i : ℕ) → i < j → before (line c j).date (line c i).date ≡ true
    go zero h = before_first c dated (none_given Dates (tests c) n) j h b four
    go (suc i) h = falling c dated (none_given Order (tests c) n) (suc i) j (omega arith) h b four
