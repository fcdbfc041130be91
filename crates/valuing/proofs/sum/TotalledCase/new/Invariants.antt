use Rattle.valuing.specs.Totals.{TotalsBelow}
use Rattle.valuing.proofs.sum.TotalledCase.new.Given as goal

abbrev pub invariant-loop-line : goal.invariant-loop-line
invariant-loop-line l = TotalsBelow l.formed.case.now l.line-index l.totals
