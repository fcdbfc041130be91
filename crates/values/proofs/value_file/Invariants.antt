-- While something is wanted, less is left to read; the bytes done were read, and what was written is the report of those. When nothing
-- is wanted any more, it is the report of the whole file. Where a read or a write failed, it is the start of it.
use Rattle.std.proofs.Common.{◌≡◌, ℕ, ◌+◌, ◌%◌, ◌<◌, ◌≤◌, min, List, ◌++◌, length, Err, IfSome, IsOk}
use Rattle.std.specs.declared.io.Error.{Error}
use Rattle.std.specs.Io.{StartsWith}
use Rattle.std.specs.Io.KnownBytes.{Appends, Consumes}
use Rattle.runs.specs.declared.Counts.{Counts}
use Rattle.runs.specs.Run.{left, report_of}
use Rattle.runs.specs.Steps.{Reported}
use Rattle.values.specs.declared.failure.Failure.TheVariants.{Input}
use Rattle.values.proofs.Report.{Going}
use Rattle.values.proofs.value_file.Given as goal

abbrev pub invariant-loop-outcome : goal.invariant-loop-outcome
invariant-loop-outcome g l = record {
  wanted : (l.run.wanted ≤ 65536) × (l.run.wanted % 512 ≡ 0);
  held : l.run.held < 512;
  going : IsOk l.outcome → 0 < l.run.wanted → Going (g.R.Read.remaining l.fn.reader) (g.R.Read.remaining l.reader) (g.W.Write.contents l.fn.writer) (g.W.Write.contents l.writer) l.run l.input;
  whole : IsOk l.outcome → l.run.wanted ≡ 0 → IfSome (g.R.Read.remaining l.fn.reader) (λ file. Appends (g.W.Write.contents l.fn.writer) (g.W.Write.contents l.writer) (report_of file));
  start : IfSome (g.R.Read.remaining l.fn.reader) (λ file. (written : List ℕ) × StartsWith (report_of file) written × Appends (g.W.Write.contents l.fn.writer) (g.W.Write.contents l.writer) written);
  cut : (error : Error) → l.outcome ≡ Err (Input error)
      → (done : List ℕ) × (part : List ℕ) × (counts : Counts) × (written : List ℕ) × Consumes (g.R.Read.remaining l.fn.reader) (g.R.Read.remaining l.reader) (done ++ part)
      × (length part < 512) × Reported done counts written × Appends (g.W.Write.contents l.fn.writer) (g.W.Write.contents l.writer) written;
}

abbrev pub decreases-loop-outcome : goal.decreases-loop-outcome
decreases-loop-outcome g l = left l.run.counts + min 1 l.run.wanted
