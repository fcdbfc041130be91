use Rattle.std.proofs.Common.{◌+◌, ◌*◌}
use Rattle.blocks.specs.Words.{word_at, odd_at}
use Rattle.blocks.proofs.Sums.{SumsFrom}
use Rattle.blocks.proofs.column.Column.add.Given as goal

abbrev pub invariant-loop-row : goal.invariant-loop-row
invariant-loop-row l =
    SumsFrom (λ k. word_at l.b (l.self.start + l.self.stride * k)) l.self.count l.row l.sums.words
    × SumsFrom (λ k. odd_at l.b (l.self.start + l.self.stride * k)) l.self.count l.row l.sums.odd
