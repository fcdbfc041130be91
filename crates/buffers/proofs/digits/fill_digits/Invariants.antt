use Rattle.std.proofs.Common.{◌++◌, ◌≡◌, drop, length}
use Rattle.buffers.specs.Decimal.{last_digits}
use Rattle.buffers.proofs.digits.fill_digits.Given as goal

abbrev pub invariant-loop-i : goal.invariant-loop-i
invariant-loop-i l =
    last_digits l.i l.rest ++ drop l.i l.out ≡ last_digits (length l.initial.out) l.n
