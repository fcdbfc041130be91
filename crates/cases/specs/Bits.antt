-- The bits of some numbers taken together. No promise of a public function speaks of them.
-- Assumes nothing.
use Rattle.std.specs.Prelude.{ℕ, List}
use Rattle.std.specs.List.{fold}
use Rattle.std.specs.Int.Bits.{bit_or}

-- every bit that is set in one of them
abbrev pub all_bits : List ℕ → ℕ
all_bits xs = fold bit_or 0 xs
