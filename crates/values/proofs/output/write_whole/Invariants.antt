-- The first n bytes were written, and the others are left. That they are as many is said apart: numbers show where it fails.
use Rattle.std.proofs.Common.{◌≡◌, ℕ, ◌+◌, length, take, drop}
use Rattle.std.specs.Io.KnownBytes.{Appends}
use Rattle.values.proofs.output.write_whole.Given as goal

abbrev pub invariant-loop-rest : goal.invariant-loop-rest
invariant-loop-rest g l = (n : ℕ) × (n + length l.rest ≡ length l.bytes) × (l.rest ≡ drop n l.bytes) × Appends (g.W.Write.contents l.initial.writer) (g.W.Write.contents l.writer) (take n l.bytes)

abbrev pub decreases-loop-rest : goal.decreases-loop-rest
decreases-loop-rest g l = length l.rest
