use Rattle.std.proofs.Common.{◌≡◌}
use Rattle.std.specs.Slice.Iter.{chunks_rest, chunks_size}
use Rattle.runs.proofs.Turns.{Going}
use Rattle.runs.proofs.chunk.put_lines.Given as goal

abbrev pub invariant-loop-block : goal.invariant-loop-block
invariant-loop-block l = record {
  next : (goal.iterator-loop-block).can_next l.block-iterator;
  finite : (goal.iterator-loop-block).is_finite l.block-iterator;
  size : chunks_size l.block-iterator ≡ 512;
  going : Going l.input l.initial.out l.fn.counts (chunks_rest l.block-iterator) l.out l.lines.counts.blocks l.lines.counts.paid l.lines.length;
}
