use Rattle.std.proofs.Common.{◌+◌, refl, ◌∙◌, arith}
use Rattle.blocks.proofs.Places.{nonzero_between}
use Rattle.blocks.proofs.gaps.line_nonzero.Goals as goal

pub returns : goal.returns
returns c =
    let s = c.args.block.now in
    let line = c.line-line.result in
    let debit = c.debit-debit.result in
    let few = c.args.place.of_four in
    rw (
      c.nonzero.ensures ∙ nonzero_between s line (line + 72) 72 refl (omega (arith, c.line-line.ensures, few)),
      c.nonzero-2.ensures ∙ nonzero_between s debit (debit + 24) 24 refl (omega (arith, c.debit-debit.ensures, few)),
      c.line-line.ensures,
      c.debit-debit.ensures,
    )
