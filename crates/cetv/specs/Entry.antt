-- What the C program gets.
-- Assumes nothing.
use Rattle.std.specs.Prelude.{ℕ, Result}
use Rattle.std.specs.Result.{result_unwrap_or}

-- the length of the line formed, or 0 for refusal 15
abbrev pub length_of : {E : Type 0} → Result ℕ E → ℕ
length_of formed = result_unwrap_or formed 0
