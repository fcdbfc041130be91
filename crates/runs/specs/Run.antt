-- What the program prints of a case file, and how much of it is read.
-- Assumes nothing.
use Rattle.std.specs.Prelude.{ℕ, ◌+◌, ◌-◌, ◌*◌, min, cond, List, [], ◌∷◌, ◌++◌, leb, length}
use Rattle.valuing.specs.Block.{block_answer}
use Rattle.answers.specs.declared.Outcome.{Outcome}
use Rattle.answers.specs.declared.Outcome.TheVariants.{Paid, Refused}
use Rattle.report.specs.Lines.{header, line_of, end_line}
use Rattle.runs.specs.declared.Counts.{Counts}
use Rattle.blocks.specs.Files.{block_count, blocks}

-- after so many blocks the program reads no more
abbrev pub limit : ℕ
limit = 1000000

-- the lines of blocks, the first of which has the place given
unfoldable pub lines : ℕ → List (List ℕ) → List ℕ
lines place [] = []
lines place (b ∷ bs) = line_of place (block_answer b) ++ lines (place + 1) bs

abbrev pub paid_one : Outcome → ℕ
paid_one (Paid i) = 1
paid_one (Refused r) = 0

-- how many of the blocks are paid
unfoldable pub paid_in : List (List ℕ) → ℕ
paid_in [] = 0
paid_in (b ∷ bs) = paid_one (block_answer b).outcome + paid_in bs

-- the blocks of a file that are read
abbrev pub blocks_read : List ℕ → List (List ℕ)
blocks_read file = blocks (min (block_count (length file)) limit) file

-- what the program prints of a file: the header, a line for each block, and the end line with the counts
unfoldable pub report_of : List ℕ → List ℕ
report_of file = header ++ lines 1 (blocks_read file) ++ end_line (length (blocks_read file)) (paid_in (blocks_read file))

-- how many blocks may still be read after those counted. Counts of more paid than read are no run's
abbrev pub left : Counts → ℕ
left t = cond (leb t.paid t.blocks) (limit - t.blocks) 0

-- how many bytes the next step takes at most: 128 blocks, or those that are left
abbrev pub wanted_after : Counts → ℕ
wanted_after t = min 65536 (512 * left t)

-- the counts after some blocks more
abbrev pub counted : Counts → List (List ℕ) → Counts
counted t bs = record { blocks = t.blocks + length bs; paid = t.paid + paid_in bs }
