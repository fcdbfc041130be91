use Rattle.std.proofs.Common.{arith}
use Rattle.blocks.proofs.Words.{words_sum}
use Rattle.blocks.proofs.column.Column.sum.Goals as goal

pub returns : goal.returns
returns c =
    let column = c.args.self in
    let add = c.add.ensures in (
      rw c.weigh.ensures.0 (words_sum c.args.b.now column.start column.stride column.count (λ q. omega (arith, c.fits-b q)) column.few (omega arith) (omega arith) add.words add.odd c.pairs_of.ensures c.pairs_of-2.ensures),
      c.weigh.ensures.1,
    )
