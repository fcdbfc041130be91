use Rattle.std.proofs.Common.{◌≡◌, rules, bit_or}
use Rattle.std.specs.List.{fold}
use Rattle.blocks.proofs.Places.{any_nonzero}
use Rattle.blocks.proofs.gaps.nonzero.Goals as goal

pub returns : goal.returns
returns c =
    let folded : c.fold.result ≡ fold bit_or 0 c.args.bytes.now = search rules in
    rw folded (any_nonzero c.args.bytes.now)
