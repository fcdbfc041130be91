-- Reading a block.
-- Assumes nothing.
use Rattle.std.specs.Prelude.{ℕ, not, List, ◌∷◌, length, ◌==◌, Result, Ok, Err}
use Rattle.std.specs.Result.{result_and}
use Rattle.refusals.specs.Refusals.{number_of}
use Rattle.refusals.specs.Tests.{Test, ◌gives◌, first}
use Rattle.refusals.specs.declared.Refusal.{Refusal}
use Rattle.refusals.specs.declared.Refusal.TheVariants.{Length, Check}
use Rattle.cases.specs.Layout.{check}
use Rattle.cases.specs.Form.{form_tests}
use Rattle.cases.specs.declared.Case.{Case}
use Rattle.blocks.specs.Block.{field_of, case_of, checksum, unnamed_fault}

-- the refusals of reading a block, in their order
abbrev pub reading_tests : List ℕ → List Test
reading_tests s =
    (not (length s == 512) gives Length) ∷
    (not (checksum s == field_of s check) gives Check) ∷
    form_tests (unnamed_fault s) (case_of s)

-- the case where no refusal applies, else the refusal
unfoldable pub reading_of : List ℕ → Result Case Refusal
reading_of s = result_and (first (reading_tests s)) (Ok (case_of s))

-- the number of a reading's refusal, and 0 where there is a case
abbrev pub reading_number : Result Case Refusal → ℕ
reading_number (Ok c) = 0
reading_number (Err why) = number_of why
