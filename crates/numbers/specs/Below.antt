-- Sums, tests and counts over the numbers below n.
-- Assumes nothing.
use Rattle.std.specs.Prelude.{ℕ, zero, suc, ◌+◌, Bool, false, cond, ◌||◌}

-- the sum of g over the numbers below n
unfoldable pub sum_below : ℕ → (ℕ → ℕ) → ℕ
sum_below zero g = 0
sum_below (suc n) g = sum_below n g + g n

-- whether t holds of any number below n
unfoldable pub any_below : ℕ → (ℕ → Bool) → Bool
any_below zero t = false
any_below (suc n) t = any_below n t || t n

-- how many numbers below n there are at which t holds
unfoldable pub how_many : ℕ → (ℕ → Bool) → ℕ
how_many zero t = 0
how_many (suc n) t = how_many n t + cond (t n) 1 0

-- the fewest, of the numbers below n, at which t holds; n where it holds at none
unfoldable pub fewest : ℕ → (ℕ → Bool) → ℕ
fewest zero t = 0
fewest (suc n) t = cond (t 0) 0 (suc (fewest n (λ k. t (suc k))))
