-- The laws of `Within`: how far apart products and sums lie.
-- Assumes nothing.
use Rattle.std.proofs.Common.{ℕ, zero, suc, ◌*◌, ◌<◌, mul-le-mul_right, add-mul, arith}
use Rattle.numbers.specs.Rounding.{Within}
use Rattle.numbers.specs.Below.{sum_below}

-- k times as much lies k times as far apart
pub within_mul : (n a b k : ℕ) → Within n a b → Within (n * k) (a * k) (b * k)
within_mul n a b k w = omega (arith, mul-le-mul_right k w.0, mul-le-mul_right k w.1, add-mul b n k, add-mul a n k)

-- sums lie no further apart than their terms do together
pub sum_within : (n : ℕ) (d g h : ℕ → ℕ) → ((j : ℕ) → j < n → Within (d j) (g j) (h j)) → Within (sum_below n d) (sum_below n g) (sum_below n h)
unfolding sum_below
sum_within zero d g h o = omega arith
sum_within (suc n) d g h o = omega (arith, sum_within n d g h (λ j p. o j (omega arith)), o n (omega arith))

-- what lies further apart is not within
pub further_not_within : (Within 1 2 0 → ⊥) × (Within 1 0 2 → ⊥)
further_not_within = ((λ w. omega (arith, w.0)), (λ w. omega (arith, w.1)))
