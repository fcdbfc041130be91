-- Forming a line in a lent buffer.
-- Assumes nothing.
use Rattle.std.specs.Prelude.{ℕ, cond, List, [], ◌∷◌, ◌++◌, Result, Ok, Err, ltb, length, drop}
use Rattle.refusals.specs.Refusals.{number_of}
use Rattle.refusals.specs.declared.Refusal.{Refusal}
use Rattle.refusals.specs.declared.Refusal.TheVariants.{Buffer}

-- 15 buffer: fewer than 256 bytes lent; otherwise the answer is the line's length
unfoldable pub formed_as : ℕ → List ℕ → Result ℕ Refusal
formed_as size line = cond (ltb size 256) (Err Buffer) (Ok (length line))

-- the buffer afterwards: as it was where that is refused, else the line at its start and every byte after the line as it was
unfoldable pub buffer_with : List ℕ → List ℕ → List ℕ
buffer_with buffer line = cond (ltb (length buffer) 256) buffer (line ++ drop (length line) buffer)

-- the answer in numbers: 0 and the line's length, or the refusal's number
abbrev pub formed_numbers : Result ℕ Refusal → List ℕ
formed_numbers (Ok n) = 0 ∷ n ∷ []
formed_numbers (Err r) = number_of r ∷ []
