use Rattle.std.proofs.Common.{◌*◌, sym}
use Rattle.numbers.proofs.Rounding.{nearest_even}
use Rattle.valuing.proofs.sum.Revaluation.revalue.Goals as goal

pub returns : goal.returns
returns c =
    let pence = c.args.pence in
    let revaluation = c.args.self.factor in
    let e = sym (nearest_even 5000 (pence * revaluation)) in
    rw c.from.ensures e
