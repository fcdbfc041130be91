-- What the code carries on its way to the check, a 32-bit word at a time. No promise of a public function speaks of it.
-- Assumes nothing.
use Rattle.std.specs.Prelude.{◌≡◌, ℕ, ◌+◌, ◌*◌, ◌/◌, ◌%◌, List, slice_index}
use Rattle.numbers.specs.Below.{sum_below}
use Rattle.blocks.specs.declared.check.Sums.{Sums}

-- what the word at position p adds to the check: what its four bytes add
unfoldable pub word_sum : List ℕ → ℕ → ℕ
word_sum s p = sum_below 4 (λ i. (p + i + 1) * slice_index s (p + i))

-- the bytes at the odd positions of a word, its second and its fourth, each in one half of a number
abbrev pub odd_bytes : ℕ → ℕ
odd_bytes w = w / 256 % 256 + 65536 * (w / 16777216)

-- of the word at position p: the sum of its first two bytes, that of the other two, and its odd bytes
abbrev pub front_at : List ℕ → ℕ → ℕ
front_at s p = slice_index s p + slice_index s (p + 1)

abbrev pub back_at : List ℕ → ℕ → ℕ
back_at s p = slice_index s (p + 2) + slice_index s (p + 3)

abbrev pub odd_at : List ℕ → ℕ → ℕ
odd_at s p = slice_index s (p + 1) + 65536 * slice_index s (p + 3)

-- the word: a pair of bytes in each half, and the odd bytes 255 times more
abbrev pub word_at : List ℕ → ℕ → ℕ
word_at s p = front_at s p + 65536 * back_at s p + 255 * odd_at s p

-- n numbers times their places, summed
abbrev pub weighted_sum : ℕ → (ℕ → ℕ) → ℕ
weighted_sum n x = sum_below n (λ k. k * x k)

pub record SumsOf (n : ℕ) (x : ℕ → ℕ) (s : Sums) : Type 0 where
  pub is_plain : s.plain ≡ sum_below n x % 4294967296
  pub is_weighted : s.weighted ≡ weighted_sum n x % 4294967296

-- one more number before the others
abbrev pub prepend : ℕ → Sums → Sums
prepend x s = record { plain = (s.plain + x) % 4294967296; weighted = (s.weighted + s.plain) % 4294967296 }

abbrev pub halves : ℕ → ℕ
halves x = x % 65536 + x / 65536

-- what words a stride apart add to the check, from the sums of their pairs, of these times their places, and of their odd bytes
abbrev pub weighed : ℕ → ℕ → ℕ → ℕ → ℕ → ℕ
weighed start stride pairs weighted odd =
    stride * halves weighted + (start + 1) * (halves pairs % 32768) + 2 * (pairs / 65536) + halves odd
