use Rattle.std.proofs.Common.{refl, ◌∙◌, arith}
use Rattle.blocks.proofs.Places.{nonzero_between, unnamed}
use Rattle.blocks.proofs.gaps.unnamed_fault.Goals as goal

pub returns : goal.returns
returns c =
    let s = c.args.block.now in
    let long = c.told-block in
    rw (
      c.nonzero.ensures ∙ nonzero_between s 2 4 2 refl (omega (arith, long)),
      c.nonzero-2.ensures ∙ nonzero_between s 15 16 1 refl (omega (arith, long)),
      c.nonzero-3.ensures ∙ nonzero_between s 36 40 4 refl (omega (arith, long)),
      c.nonzero-4.ensures ∙ nonzero_between s 68 72 4 refl (omega (arith, long)),
      c.nonzero-5.ensures ∙ nonzero_between s 140 144 4 refl (omega (arith, long)),
      c.nonzero-6.ensures ∙ nonzero_between s 212 216 4 refl (omega (arith, long)),
      c.nonzero-7.ensures ∙ nonzero_between s 284 288 4 refl (omega (arith, long)),
      c.nonzero-8.ensures ∙ nonzero_between s 448 508 60 refl (omega (arith, long)),
    )
    (unnamed s)
