use Rattle.std.proofs.Common.{◌++◌, ◌≤◌, ◌≡◌, drop, length}
use Rattle.buffers.specs.Decimal.{decimal}
use Rattle.buffers.proofs.digits.Decimal.fill.Given as goal

abbrev pub invariant-loop-rest : goal.invariant-loop-rest
invariant-loop-rest l =
    (l.end ≡ length (decimal l.rest)) × (l.end ≤ length l.out) × (decimal l.rest ++ drop l.end l.out ≡ decimal l.fn.self.number)

abbrev pub decreases-loop-rest : goal.decreases-loop-rest
decreases-loop-rest l = l.rest
