-- A test with a threshold m: it holds of the numbers below m and of no other. How many and the fewest both tell m.
-- Assumes nothing.
use Rattle.std.proofs.Common.{ℕ, zero, suc, ◌+◌, ◌-◌, ◌≤◌, ◌<◌, min, ◌≡◌, Bool, true, false, cond, not, arith}
use Rattle.std.proofs.Math.Decide.{dec_lt}
use Rattle.numbers.specs.Below.{how_many, fewest}

pub record Threshold (t : ℕ → Bool) (m : ℕ) : Type 0 where
  pub holds : (n : ℕ) → n < m → t n ≡ true
  pub fails : (n : ℕ) → m ≤ n → t n ≡ false

pub many_threshold : (k : ℕ) (t : ℕ → Bool) (m : ℕ) → Threshold t m → how_many k t ≡ min k m
unfolding how_many
many_threshold zero t m w = omega arith
many_threshold (suc k) t m w = go (dec_lt k m) (many_threshold k t m w)
  where
    go : Dec (k < m) → how_many k t ≡ min k m → how_many k t + cond (t k) 1 0 ≡ min (suc k) m
    go (yes h) e = rw (w.holds k h) (omega arith)
    go (no h) e = rw (w.fails k (omega arith)) (omega arith)

-- asked of the number after, its threshold is one less
pub threshold_after : (t : ℕ → Bool) (m : ℕ) → Threshold t m → Threshold (λ n. t (suc n)) (m - 1)
threshold_after t m w = record { holds = λ n h. w.holds (suc n) (omega arith); fails = λ n h. w.fails (suc n) (omega arith) }

-- the fewest of those at which it does not hold
pub fewest_threshold : (k : ℕ) (t : ℕ → Bool) (m : ℕ) → Threshold t m → fewest k (λ n. not (t n)) ≡ min k m
unfolding fewest
fewest_threshold zero t m w = omega arith
fewest_threshold (suc k) t zero w = rw (w.fails 0 (omega arith)) (omega arith)
fewest_threshold (suc k) t (suc m) w = rw (w.holds 0 (omega arith)) (omega (arith, fewest_threshold k (λ n. t (suc n)) (suc m - 1) (threshold_after t (suc m) w)))
