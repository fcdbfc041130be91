use Rattle.std.proofs.Common.{arith, lit<}
use Rattle.numbers.proofs.Rounding.{nearest_half}
use Rattle.valuing.proofs.sum.TotalledCase.first_value.Goals as goal

pub returns-clause-bound : goal.returns-clause-bound
returns-clause-bound c = omega (arith, c.nearest.ensures, nearest_half 100 c.in_ok-total.total (lit< tt))
