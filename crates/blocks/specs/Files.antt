-- A case file: a run of blocks.
-- Assumes nothing.
use Rattle.std.specs.Prelude.{ℕ, zero, suc, ◌+◌, ◌/◌, List, [], ◌∷◌, length, take, drop}

-- how many blocks so many bytes are: a last one cut short counts too. std's `chunk_count` is this and a bound that no proof needs here
abbrev pub block_count : ℕ → ℕ
block_count n = (n + 511) / 512

-- the first n blocks of a file. std's `first_chunks` is the same, a word of its vectors with no laws, which these have
unfoldable pub blocks : ℕ → List ℕ → List (List ℕ)
blocks zero s = []
blocks (suc n) s = take 512 s ∷ blocks n (drop 512 s)

abbrev pub all_blocks : List ℕ → List (List ℕ)
all_blocks s = blocks (block_count (length s)) s
