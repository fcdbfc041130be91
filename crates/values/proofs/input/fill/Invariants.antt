use Rattle.std.proofs.Common.{◌≡◌, ◌-◌, ◌≤◌, length, take, drop}
use Rattle.std.specs.Io.KnownBytes.{Consumes}
use Rattle.values.proofs.input.fill.Given as goal

abbrev pub invariant-loop-n : goal.invariant-loop-n
invariant-loop-n g l = record {
  low : l.held ≤ l.n;
  high : l.n ≤ length l.buf;
  same : length l.buf ≡ length l.initial.buf;
  kept : take l.held l.buf ≡ take l.held l.initial.buf;
  read : Consumes (g.R.Read.remaining l.initial.reader) (g.R.Read.remaining l.reader) (drop l.held (take l.n l.buf));
}

abbrev pub decreases-loop-n : goal.decreases-loop-n
decreases-loop-n g l = 512 - l.n
