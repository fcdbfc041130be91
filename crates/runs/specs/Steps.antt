-- The steps of a run, and what they add to the report of a file.
-- Assumes nothing.
use Rattle.std.specs.Prelude.{ℕ, ◌+◌, ◌-◌, ◌*◌, ◌%◌, ◌≤◌, ◌<◌, Bool, true, false, cond, List, [], ◌++◌, ◌≡◌, eqb, length, take, drop}
use Rattle.report.specs.Lines.{header, end_line}
use Rattle.runs.specs.declared.Counts.{Counts}
use Rattle.runs.specs.declared.Progress.{Progress}
use Rattle.runs.specs.declared.Source.{Source}
use Rattle.runs.specs.declared.Source.TheVariants.{Open, Ended, Failed}
use Rattle.blocks.specs.Files.{blocks, all_blocks}
use Rattle.runs.specs.Run.{limit, lines, paid_in, report_of, wanted_after, counted}

abbrev pub none : Counts
none = record { blocks = 0; paid = 0 }

abbrev pub start_of : Progress
start_of = record { counts = none; wanted = wanted_after none; held = 0; length = length header }

-- how many of n bytes a step takes: a last part of a block counts only where the file has ended
abbrev pub bytes_taken : Source → ℕ → ℕ
bytes_taken Open n = n - n % 512
bytes_taken Ended n = n
bytes_taken Failed n = n - n % 512

-- how many bytes the next step takes at most: none where the file has ended or a read failed
abbrev pub wanted_unless : Source → Counts → ℕ
wanted_unless Open t = wanted_after t
wanted_unless Ended t = 0
wanted_unless Failed t = 0

-- whether the end line follows: nothing failed, and no more is wanted
abbrev pub ends : Source → ℕ → Bool
ends Open wanted = eqb wanted 0
ends Ended wanted = true
ends Failed wanted = false

-- the bytes that came: no more than were wanted
abbrev pub came : Counts → List ℕ → List ℕ
came t input = take (wanted_after t) input

-- a step with the bytes of input
module _ (t : Counts) (input : List ℕ) (source : Source) where
  -- the bytes that count
  unfoldable pub chunk : List ℕ
  chunk = take (bytes_taken source (length (came t input))) input

  -- the bytes that came and do not count: a part of a block, which waits for its rest unless a read failed; none where the file has ended
  unfoldable pub waiting_part : List ℕ
  waiting_part = drop (bytes_taken source (length (came t input))) (came t input)

  abbrev pub counts_after : Counts
  counts_after = counted t (all_blocks chunk)

  abbrev pub wanted_next : ℕ
  wanted_next = wanted_unless source counts_after

  -- the lines of the blocks, and the end line if it follows
  unfoldable pub step_text : List ℕ
  step_text = lines (t.blocks + 1) (all_blocks chunk) ++ cond (ends source wanted_next) (end_line counts_after.blocks counts_after.paid) []

  abbrev pub step_of : Progress
  step_of = record { counts = counts_after; wanted = wanted_next; held = length waiting_part; length = length step_text }

-- a text that reports the bytes done: they are whole blocks, no more than may be read; the counts are theirs, and the text is the
-- header and their lines
pub record Reported (done : List ℕ) (t : Counts) (text : List ℕ) : Type 0 where
  pub whole : length done ≡ 512 * t.blocks
  pub few : t.blocks ≤ limit
  pub paid : t.paid ≡ paid_in (blocks t.blocks done)
  pub report : text ≡ header ++ lines 1 (blocks t.blocks done)

-- what a step adds to the text so far, where the bytes done were reported before it: r is its answer, and bytes are those that it
-- formed
pub record Continues (t : Counts) (input : List ℕ) (source : Source) (r : Progress) (bytes : List ℕ) : Type 0 where
  -- while more is wanted, the chunk is reported too
  pub going : (done text : List ℕ) → Reported done t text → 0 < r.wanted → Reported (done ++ chunk t input source) r.counts (text ++ bytes)
  -- so it is where a read failed, which ends the run
  pub broken : (done text : List ℕ) → Reported done t text → source ≡ Failed → Reported (done ++ chunk t input source) r.counts (text ++ bytes)
  -- otherwise, when the run is over, the text is the report of the whole file. rest is what the file has after the chunk: nothing
  -- where the file has ended
  pub over : (done text rest : List ℕ) → Reported done t text → (source ≡ Failed → ⊥) → r.wanted ≡ 0 → (source ≡ Ended → rest ≡ [])
      → text ++ bytes ≡ report_of (done ++ (chunk t input source ++ rest))
