-- What the code carries from line to line, one line further; and the totals over all lines.
-- Assumes nothing.
use Rattle.std.proofs.Common.{ℕ, ◌+◌, ◌<◌, ◌≡◌, arith, get_or, take}
use Rattle.std.proofs.lemmas.List.{get_or-take}
use Rattle.std.proofs.lemmas.Bool.{lt-leb}
use Rattle.numbers.proofs.Below.{sum_more, any_more}
use Rattle.cases.specs.Entries.{line, line_by, age_of}
use Rattle.cases.specs.Kinds.{rules_of}
use Rattle.cases.specs.declared.Line.{Line}
use Rattle.cases.specs.declared.Case.{Case}
use Rattle.factors.specs.Tables.{row_in}
use Rattle.sums.specs.Rows.{ahead_of, row_of, factors_of}
use Rattle.sums.specs.Sum.{Benefit, member_pension, lump_sum, survivor_pension, revalued_debit, valued_at}
use Rattle.valuing.specs.Totals.{TotalsBy, valued_below, TotalsBelow, plus_totals}
use Rattle.valuing.specs.declared.sum.Totals.{Totals}

-- the row that the code looks up on a line within the count
pub row_within : (c : Case) (i : ℕ) → i < c.count → row_in (rules_of c.kind).table c.sex (age_of c) (ahead_of c i) ≡ row_of c i
unfolding row_of
row_within c i h = rw (lt-leb c.count i h)

-- and the line itself
pub counted_line : (c : Case) (i : ℕ) → i < c.count → get_or (take c.count c.lines) i (line_by (λ e. 0) 0) ≡ line c i
counted_line c i h = get_or-take c.count c.lines i _ h

-- amounts valued, one line further
pub valued_more :
    (c : Case) (i : ℕ) (amount : ℕ → Line → Benefit → ℕ) (b : Benefit) →
    valued_below (i + 1) c amount b ≡ valued_below i c amount b + valued_at (factors_of c i) (amount c.revaluation (line c i)) b
valued_more c i amount b = sum_more i _

pub totals_more : (c : Case) (i : ℕ) (s t : Totals) → TotalsBelow c i s → TotalsBy (row_of c i) c.revaluation (line c i) t → TotalsBelow c (i + 1) (plus_totals s t)
unfolding factors_of
totals_more c i s t b a =
    let bb = b.bounded in
    let ab = a.bounded in
    let debit = valued_more c i revalued_debit in
    record {
      pension = rw (sum_more, b.pension, a.pension);
      lump = rw (sum_more, b.lump, a.lump);
      survivor = rw (sum_more, b.survivor, a.survivor);
      deduction = rw (sum_more, b.deduction, a.deduction);
      debit = omega (arith, b.debit, a.debit, debit member_pension, debit lump_sum, debit survivor_pension);
      missing = rw (any_more, b.missing, a.absent);
      excess = rw (any_more, b.excess, a.excess);
      bounded = omega arith;
    }
