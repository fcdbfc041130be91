use Rattle.blocks.proofs.Order.{passed_well_formed}
use Rattle.valuing.proofs.block.value_case.Goals as goal

pub invariant_of-value_formed : goal.invariant_of-value_formed
invariant_of-value_formed c =
    record { formed = passed_well_formed c.args.block.now c.case_in-case.result c.requires c.case_in-case.ensures }
