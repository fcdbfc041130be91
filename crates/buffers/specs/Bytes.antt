-- Numbers in bytes, low byte first.
-- Assumes nothing.
use Rattle.std.specs.Prelude.{ℕ, ◌+◌, ◌-◌, ◌*◌, Bool, cond, List, [], ◌∷◌, Option, Some, None, leb, length, take, drop, replicate, slice_index}
use Rattle.std.specs.Option.{unwrap_or}
use Rattle.std.specs.Int.{byte_worth, sum_through}

-- whether so many bytes from position p on stand within a length
abbrev pub fits : ℕ → ℕ → ℕ → Bool
fits n p width = leb (p + width) n

-- the n bytes of s from position p on, where they all stand in s
unfoldable pub part_at : ℕ → List ℕ → ℕ → Option (List ℕ)
part_at n s p = cond (fits (length s) p n) (Some (take n (drop p s))) None

-- the same; zeros where they do not
unfoldable pub bytes_at : ℕ → List ℕ → ℕ → List ℕ
bytes_at n s p = unwrap_or (part_at n s p) (replicate n 0)

-- the number that some bytes hold, low byte first: by recursion over bytes, as proofs go; that it is std's is the law number_of
unfoldable pub little_endian : List ℕ → ℕ
little_endian [] = 0
little_endian (b ∷ bs) = b + 256 * little_endian bs

-- the number in the bytes of s from position p on, so many as its width; 0 where they do not all stand in s
unfoldable pub number_at : ℕ → List ℕ → ℕ → ℕ
number_at width s p = cond (fits (length s) p width) (little_endian (take width (drop p s))) 0

-- the number that `from_le_bytes` of an integer type of n bytes makes of them, in std's words
abbrev pub number_from_le_bytes : ℕ → List ℕ → ℕ
number_from_le_bytes n bs = sum_through (λ i. byte_worth i (slice_index bs i)) (n - 1)
