use Rattle.std.proofs.Common.{◌≡◌, ◌+◌, ◌*◌, ◌≤◌}
use Rattle.numbers.specs.Below.{sum_below}
use Rattle.blocks.specs.Words.{word_sum}
use Rattle.blocks.proofs.check.checksum.Given as goal

abbrev pub invariant-loop-word : goal.invariant-loop-word
invariant-loop-word l =
    (l.sum ≡ sum_below l.word (λ j. sum_below 15 (λ k. word_sum l.b (4 * j + 32 * k)))) × (l.sum ≤ l.word * 140000000)
