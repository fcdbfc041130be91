-- Rounding to the nearest whole number, halves up.
-- Assumes nothing.
use Rattle.std.specs.Prelude.{ℕ, ◌+◌, ◌*◌, ◌/◌, ◌≤◌}

-- n / d to the nearest whole number, halves up: the whole part of n / d + 1 / 2; 0 where d is 0
unfoldable pub nearest : ℕ → ℕ → ℕ
nearest d n = (n * 2 + d) / (d * 2)

-- a and b lie no further apart than n
abbrev pub Within : ℕ → ℕ → ℕ → Type 0
Within n a b = (a ≤ b + n) × (b ≤ a + n)
