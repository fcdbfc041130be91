use Rattle.refusals.proofs.Order.{handed_on}
use Rattle.valuing.proofs.Stages.{by_form}
use Rattle.valuing.proofs.valuation.value_items.Goals as goal

pub returns-in_err-new : goal.returns-in_err-new
returns-in_err-new c = rw (handed_on _ _ c.from_residual.ensures.1) (by_form _ _ c.in_err-new.ensures.refused)
