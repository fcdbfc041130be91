-- The check alone comes to a limit of its search here.
use Rattle.cases.proofs.Line.has_amount_too_large.Goals as goal

pub returns : goal.returns
returns c = rw (c.any_too_large.ensures, c.amounts.ensures)
