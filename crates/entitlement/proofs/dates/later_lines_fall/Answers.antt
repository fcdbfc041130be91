use Rattle.std.proofs.Common.{rules}
use Rattle.std.proofs.lemmas.List.Sorted.{answers_always}
use Rattle.calendar.specs.Dates.{before}
use Rattle.entitlement.proofs.dates.later_lines_fall.Goals as goal

pub returns : goal.returns
returns c =
    rw c.in-Some.ensures.cases.0
    (c.is_sorted_by.ensures.cases (λ above l. before l.date above.date) (answers_always _ _ _ (λ f a r g k. search rules)))
