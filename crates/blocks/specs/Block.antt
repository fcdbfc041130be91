-- The case that a block holds, its checksum, and the bytes that no field names.
-- Assumes nothing.
use Rattle.std.specs.Prelude.{ℕ, ◌+◌, ◌*◌, Bool, cond, not, List, [], ◌∷◌, length, ◌==◌, nat_lt, slice_index}
use Rattle.numbers.specs.Below.{sum_below, any_below}
use Rattle.numbers.specs.Lists.{any}
use Rattle.buffers.specs.Bytes.{number_at}
use Rattle.cases.specs.Layout.{Field, head_at, place, layout, gaps}
use Rattle.cases.specs.Entries.{line_by, case_with, case_by}
use Rattle.cases.specs.declared.Line.{Line}
use Rattle.cases.specs.declared.Case.{Case}

-- the number that a field of a block holds
abbrev pub field_of : List ℕ → Field → ℕ
field_of s f = number_at f.width s f.offset

unfoldable pub case_of : List ℕ → Case
case_of s = case_by (λ e. field_of s (place e))

-- the checksum: each of the first 508 bytes times its position, counted from 1, summed
unfoldable pub checksum : List ℕ → ℕ
checksum s = sum_below 508 (λ p. (p + 1) * slice_index s p)

-- the same of any bytes: 0 where there are fewer than 508
unfoldable pub checksum_or_zero : List ℕ → ℕ
checksum_or_zero s = cond (nat_lt (length s) 508) 0 (checksum s)

-- whether a byte of a field's place is not zero
unfoldable pub nonzero : List ℕ → Field → Bool
nonzero s f = any_below f.width (λ i. not (slice_index s (f.offset + i) == 0))

-- whether a byte that no field names is not zero
unfoldable pub unnamed_fault : List ℕ → Bool
unnamed_fault s = any (nonzero s) (gaps 0 512 layout)

-- No promise of a public function speaks of what follows: the code reads the fields before the lines apart from them.
-- the line at a place, from 0
abbrev pub line_of : List ℕ → ℕ → Line
line_of s i = line_by (λ e. field_of s (place e)) i

abbrev pub lines_of : List ℕ → List Line
lines_of s = line_of s 0 ∷ line_of s 1 ∷ line_of s 2 ∷ line_of s 3 ∷ []

abbrev pub line_of_zeros : Line
line_of_zeros = line_by (λ e. 0) 0

-- the case of a block's fields before the lines, with lines of zeros in their place
unfoldable pub head_of : List ℕ → Case
head_of s = case_with (λ h. field_of s (head_at h)) (line_of_zeros ∷ line_of_zeros ∷ line_of_zeros ∷ line_of_zeros ∷ [])
