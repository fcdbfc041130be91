use Rattle.std.proofs.Common.{ℕ, List, length, take, min, ◌≡◌, ◌<◌, arith, length-take}
use Rattle.factors.proofs.Tables.{small_row}
use Rattle.cases.specs.Entries.{line_by}
use Rattle.cases.specs.declared.Line.{Line}
use Rattle.sums.specs.Rows.{row_of}
use Rattle.valuing.proofs.Ranges.{in_range, line_in_range}
use Rattle.valuing.proofs.Past.{four_at_most, totals_all}
use Rattle.valuing.proofs.Carried.{counted_line, row_within, totals_more}
use Rattle.valuing.proofs.sum.TotalledCase.new.Goals as goal

-- how many lines are within the count
few : (lines counted : List Line) (n : ℕ) → counted ≡ take n lines → length lines ≡ 4 → length counted ≡ min n 4
few lines counted n e four = rw (e, length-take, four)

pub invariant_of-line-clause-in_range : goal.invariant_of-line-clause-in_range
unfolding line_by
invariant_of-line-clause-in_range c =
    let case = c.args.formed.case.now in
    let i = c.loop-line.line-index in
    let lines = c.counted_lines-line-items.ensures in
    let number = few _ _ _ lines.counted lines.four in
    rw (lines.counted, counted_line case i (omega (arith, number))) (line_in_range case (in_range case c.args.formed.formed) i (omega (arith, number)))

pub invariant_of-line-clause-small : goal.invariant_of-line-clause-small
invariant_of-line-clause-small c = rw (c.row-row.ensures.row c.args.formed.case.now.sex) (small_row _ _ _ _)

pub loop-line-preserved : goal.loop-line-preserved
unfolding line_by
loop-line-preserved c =
    let case = c.args.formed.case.now in
    let i = c.loop-line.line-index in
    let lines = c.counted_lines-line-items.ensures in
    let within : i < case.count = omega (arith, few _ _ _ lines.counted lines.four) in
    let row : c.row-row.result ≡ row_of case i =
    rw (c.row-row.ensures.row case.sex, c.years_ahead.ensures, lines.counted, counted_line case i within, c.rules_of-table.ensures, c.age-age.ensures) (row_within case i within) in
    let of_line = rw (lines.counted, counted_line case i within, row) at c.totals-of_line.ensures in
    rw c.add-totals.ensures (totals_more case i c.loop-line.totals c.totals-of_line.result c.loop-line.invariant of_line)

pub invariant_of-result : goal.invariant_of-result
invariant_of-result c =
    let case = c.args.formed.case.now in
    let formed = c.args.formed.formed in
    let lines = c.counted_lines-line-items.ensures in
    let number = few _ _ _ lines.counted lines.four in
    record {
      totalled = totals_all case formed c.loop-line.line-index c.loop-line.totals (omega (arith, number, four_at_most case formed)) (omega (arith, number)) c.loop-line.invariant;
    }
