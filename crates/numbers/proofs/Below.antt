-- The laws of sums and of any, over the numbers below n.
-- Assumes nothing.
use Rattle.std.proofs.Common.{ℕ, zero, suc, ◌+◌, ◌*◌, ◌≤◌, ◌<◌, ◌≡◌, refl, ◌∙◌, Bool, false, ◌||◌, add-zero, add-suc, mul-add, zero-mul, suc-mul, mul_comm, add-one, arith}
use Rattle.std.proofs.Math.Decide.{ℕ_discrete}
use Rattle.numbers.specs.Below.{sum_below, any_below}
use Rattle.numbers.proofs.Tests.{or_false}

-- where a loop starts, and one number further
pub sum_none : (g : ℕ → ℕ) → 0 ≡ sum_below 0 g
unfolding sum_below
sum_none g = refl

pub sum_more : (i : ℕ) (g : ℕ → ℕ) → sum_below (i + 1) g ≡ sum_below i g + g i
unfolding sum_below
sum_more i g = rw add-one

pub any_none : (t : ℕ → Bool) → false ≡ any_below 0 t
unfolding any_below
any_none t = refl

pub any_more : (i : ℕ) (t : ℕ → Bool) → any_below (i + 1) t ≡ (any_below i t || t i)
unfolding any_below
any_more i t = rw add-one

-- where t holds of none, it does not hold of j
pub any_false : (n : ℕ) (t : ℕ → Bool) → any_below n t ≡ false → (j : ℕ) → j < n → t j ≡ false
unfolding any_below
any_false zero t e j h = absurd (omega arith)
any_false (suc n) t e j h = go (ℕ_discrete j n) (any_false n t both.0 j)
  where
    both : (any_below n t ≡ false) × (t n ≡ false)
    both = or_false (any_below n t) (t n) e

    go : Dec (j ≡ n) → (j < n → t j ≡ false) → t j ≡ false
    go (yes p) earlier = rw p both.1
    go (no q) earlier = earlier (omega arith)

-- terms no larger make a sum no larger, and the same terms the same sum
pub sum_mono : (n : ℕ) (g h : ℕ → ℕ) → ((j : ℕ) → j < n → g j ≤ h j) → sum_below n g ≤ sum_below n h
unfolding sum_below
sum_mono zero g h o = omega arith
sum_mono (suc n) g h o = omega (arith, sum_mono n g h (λ j p. o j (omega arith)), o n (omega arith))

pub sum_same : (n : ℕ) (g h : ℕ → ℕ) → ((j : ℕ) → j < n → h j ≡ g j) → sum_below n h ≡ sum_below n g
unfolding sum_below
sum_same zero g h o = refl
sum_same (suc n) g h o = omega (arith, sum_same n g h (λ j p. o j (omega arith)), o n (omega arith))

-- two sums whose terms differ at i alone, by k
pub sum_at :
    (n : ℕ) (g h : ℕ → ℕ) (k i : ℕ) → i < n → ((j : ℕ) → (j ≡ i → ⊥) → h j ≡ g j) → h i ≡ g i + k →
    sum_below n h ≡ sum_below n g + k
unfolding sum_below
sum_at zero g h k i p o e = absurd (omega arith)
sum_at (suc n) g h k i p o e = go (ℕ_discrete i n) (λ q. sum_at n g h k i q o e)
  where
    go : Dec (i ≡ n) → (i < n → sum_below n h ≡ sum_below n g + k) → sum_below n h + h n ≡ sum_below n g + g n + k
    go (yes q) rest = omega (arith, sum_same n g h (λ j r. o j (omega arith)), rw q at e)
    go (no q) rest = omega (arith, rest (omega arith), o n (omega arith))

-- a sum in two parts; a sum of sums; a factor taken out
pub sum_split : (m n : ℕ) (g : ℕ → ℕ) → sum_below (m + n) g ≡ sum_below m g + sum_below n (λ j. g (m + j))
unfolding sum_below
sum_split m zero g = rw add-zero (omega arith)
sum_split m (suc n) g = rw add-suc (omega (arith, sum_split m n g))

pub sum_plus : (n : ℕ) (g h : ℕ → ℕ) → sum_below n (λ j. g j + h j) ≡ sum_below n g + sum_below n h
unfolding sum_below
sum_plus zero g h = refl
sum_plus (suc n) g h = omega (arith, sum_plus n g h)

pub sum_times : (n k : ℕ) (g : ℕ → ℕ) → sum_below n (λ j. k * g j) ≡ k * sum_below n g
unfolding sum_below
sum_times zero k g = omega arith
sum_times (suc n) k g = rw mul-add (omega (arith, sum_times n k g))

-- fewer terms make a sum no larger
pub sum_fewer : (n d : ℕ) (g : ℕ → ℕ) → sum_below n g ≤ sum_below (n + d) g
sum_fewer n d g = omega (arith, sum_split n d g)

-- the first term and the others
pub sum_first : (n : ℕ) (g : ℕ → ℕ) → sum_below (suc n) g ≡ g 0 + sum_below n (λ j. g (suc j))
unfolding sum_below
sum_first zero g = omega arith
sum_first (suc n) g = omega (arith, sum_first n g)

-- a sum in m rows of n terms, taken by rows and by columns
pub sum_rows : (m n : ℕ) (g : ℕ → ℕ) → sum_below (m * n) g ≡ sum_below m (λ k. sum_below n (λ j. g (n * k + j)))
unfolding sum_below
sum_rows zero n g = rw zero-mul
sum_rows (suc m) n g =
    let split = sum_split (m * n) n g in
    let last : sum_below n (λ j. g (m * n + j)) ≡ sum_below n (λ j. g (n * m + j)) = rw (mul_comm m n) in
    rw suc-mul (omega (arith, split, last, sum_rows m n g))

pub sum_zero : (n : ℕ) → sum_below n (λ j. 0) ≡ 0
unfolding sum_below
sum_zero zero = refl
sum_zero (suc n) = omega (arith, sum_zero n)

sum_swap : (m n : ℕ) (g : ℕ → ℕ → ℕ) → sum_below m (λ k. sum_below n (g k)) ≡ sum_below n (λ j. sum_below m (λ k. g k j))
unfolding sum_below
sum_swap zero n g = rw (sum_zero n)
sum_swap (suc m) n g = omega (arith, sum_swap m n g, sum_plus n (λ j. sum_below m (λ k. g k j)) (g m))

pub sum_columns : (m n : ℕ) (g : ℕ → ℕ) → sum_below (m * n) g ≡ sum_below n (λ j. sum_below m (λ k. g (n * k + j)))
sum_columns m n g = sum_rows m n g ∙ sum_swap m n (λ k j. g (n * k + j))
