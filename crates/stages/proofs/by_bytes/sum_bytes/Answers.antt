use Rattle.std.proofs.Common.{arith, ◌≡◌}
use Rattle.numbers.proofs.Below.{sum_none, sum_more}
use Rattle.blocks.specs.Block.{checksum}
use Rattle.stages.proofs.by_bytes.sum_bytes.Goals as goal

pub loop-index-init : goal.loop-index-init
loop-index-init c = (sum_none _, omega arith)

pub loop-index-preserved : goal.loop-index-preserved
loop-index-preserved c = (rw (sum_more, c.loop-index.invariant.0, c.byte_term-sum.ensures.0), omega arith)

pub returns : goal.returns
unfolding checksum
returns c =
    let all : c.loop-index.index ≡ 508 = omega (arith, c.told-bytes) in
    rw (← all) c.loop-index.invariant.0
