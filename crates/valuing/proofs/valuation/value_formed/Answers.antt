use Rattle.std.proofs.Common.{Ok, Err, ◌∙◌}
use Rattle.refusals.proofs.Order.{handed_on}
use Rattle.valuing.proofs.Stages.{by_stages}
use Rattle.valuing.proofs.valuation.value_formed.Goals as goal

pub returns-in_err-check_entitlement : goal.returns-in_err-check_entitlement
returns-in_err-check_entitlement c =
    rw (handed_on _ _ c.from_residual.ensures.1) (by_stages _ c.args.formed.formed (Err c.in_err-check_entitlement.field-0.0) c.in_err-check_entitlement.ensures.verdict)

pub returns : goal.returns
returns c =
    c.value_amounts.ensures ∙ by_stages _ c.args.formed.formed (Ok tt) c.in_ok-check_entitlement.ensures.verdict
