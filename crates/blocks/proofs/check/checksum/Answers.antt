use Rattle.std.proofs.Common.{◌≡◌, arith}
use Rattle.numbers.proofs.Below.{sum_none, sum_more}
use Rattle.blocks.proofs.Words.{in_words}
use Rattle.blocks.proofs.check.checksum.Goals as goal

pub loop-word-init : goal.loop-word-init
loop-word-init c = (sum_none _, omega arith)

pub loop-word-preserved : goal.loop-word-preserved
loop-word-preserved c = (rw (sum_more, c.loop-word.invariant.0, c.sum-sum.ensures.0), omega arith)

pub returns : goal.returns
returns c =
    let all : c.loop-word.word ≡ 8 = omega arith in
    rw (c.loop-word.invariant.0, all, c.sum.ensures.0) (in_words c.args.b.now)
