-- What is asked of the dates of lines, asked of those within the count alone.
-- Assumes nothing.
use Rattle.std.proofs.Common.{Bool, not, ◌≡◌, sym, ◌∙◌, length, take, drop}
use Rattle.std.specs.List.{list_any, IsAllAdjacentAnswer}
use Rattle.numbers.proofs.Counted.{any_counted, any_counted_later, any_unsorted}
use Rattle.calendar.specs.Dates.{before}
use Rattle.cases.specs.Entries.{line, line_by, any_line}
use Rattle.cases.specs.declared.Case.{Case}
use Rattle.entitlement.specs.Entitlement.{misplaced, out_of_order, reached}

module _ (c : Case) (four : length c.lines ≡ 4) (answer : Bool) where
  pub any_misplaced : answer ≡ list_any (λ l. not (before l.date (line c 0).date)) (drop 1 (take c.count c.lines)) → answer ≡ any_line (misplaced c) c
  any_misplaced e = e ∙ sym (rw four at (any_counted_later (line_by (λ e. 0) 0) (λ l. not (before l.date (line c 0).date)) c.count c.lines))

  pub any_out_of_order : IsAllAdjacentAnswer (λ above l b. b ≡ before l.date above.date) (drop 1 (take c.count c.lines)) answer → not answer ≡ any_line (out_of_order c) c
  any_out_of_order e = sym (rw four at (any_unsorted (line_by (λ e. 0) 0) (λ above l. before l.date above.date) c.count c.lines answer e))

  pub any_reached : answer ≡ list_any (λ l. not (before c.guarantee l.date)) (take c.count c.lines) → answer ≡ any_line (reached c) c
  any_reached e = e ∙ sym (rw four at (any_counted (line_by (λ e. 0) 0) (λ l. not (before c.guarantee l.date)) c.count c.lines))
