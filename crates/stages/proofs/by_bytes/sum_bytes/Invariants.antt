use Rattle.std.proofs.Common.{◌+◌, ◌*◌, ◌≤◌, ◌≡◌, get_or}
use Rattle.numbers.specs.Below.{sum_below}
use Rattle.stages.proofs.by_bytes.sum_bytes.Given as goal

abbrev pub invariant-loop-index : goal.invariant-loop-index
invariant-loop-index l = (l.sum ≡ sum_below l.index (λ p. (p + 1) * get_or l.bytes p 0)) × (l.sum ≤ l.index * 129540)
