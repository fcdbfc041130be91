use Rattle.std.proofs.Common.{arith}
use Rattle.sums.specs.Payment.{payment}
use Rattle.valuing.proofs.formed.FormedCase.payment.Goals as goal

pub returns : goal.returns
unfolding payment
returns c = omega arith
