use Rattle.std.proofs.Common.{ap}
use Rattle.refusals.specs.Tests.{first}
use Rattle.blocks.specs.Block.{unnamed_fault}
use Rattle.blocks.proofs.Order.{by_head}
use Rattle.blocks.proofs.read.check_form.Goals as goal

pub returns : goal.returns
returns c =
    let s = c.args.block.now in
    rw (c.check_form_by.ensures.verdict, c.unnamed_fault.ensures, c.faults_of_lines.ensures, c.new-ruled.ensures, c.requires)
    (ap first (by_head s (unnamed_fault s)))
