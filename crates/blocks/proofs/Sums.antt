-- The laws of the sums that the check is made of: of numbers, and of numbers times their places.
-- Assumes nothing.
use Rattle.std.proofs.Common.{◌≡◌, ℕ, suc, ◌+◌, ◌-◌, ◌*◌, ◌<◌, ◌≤◌, ap, ◌∙◌, subst, mul_assoc, suc-mul, mul_comm, add-mul, mul-le-mul_left, zero-mul, mul-add, arith}
use Rattle.numbers.specs.Below.{sum_below}
use Rattle.numbers.proofs.Below.{sum_plus, sum_times, sum_same, sum_mono, sum_fewer, sum_first}
use Rattle.blocks.specs.Words.{weighted_sum, SumsOf, prepend}
use Rattle.blocks.specs.declared.check.Sums.{Sums}

-- the sums of n numbers from number i on: of none, of one more, and of all
abbrev pub SumsFrom : (ℕ → ℕ) → ℕ → ℕ → Sums → Type 0
SumsFrom x n i t = SumsOf (n - i) (λ k. x (i + k)) t

pub sums_none : (x : ℕ → ℕ) (n : ℕ) (t : Sums) → n ≡ 0 → t.plain ≡ 0 → t.weighted ≡ 0 → SumsOf n x t
unfolding sum_below
sums_none x n t size plain weighted = rw size (record { is_plain = plain; is_weighted = weighted })

sums_more : (n : ℕ) (x : ℕ → ℕ) (y : ℕ) (t : Sums) → y ≡ x 0 → SumsOf n (λ k. x (suc k)) t → SumsOf (suc n) x (prepend y t)
sums_more n x y t e b =
    let first = sum_first n (λ k. k * x k) in
    let others =
    sum_same n (λ k. k * x (suc k) + x (suc k)) (λ k. suc k * x (suc k)) (λ k h. suc-mul k (x (suc k)))
    ∙ sum_plus n (λ k. k * x (suc k)) (λ k. x (suc k)) in
    record {
      is_plain = omega (arith, b.is_plain, sum_first n x);
      is_weighted = omega (arith, b.is_plain, b.is_weighted, first, zero-mul (x 0), others);
    }

pub sums_back :
    (x : ℕ → ℕ) (n i y : ℕ) (t : Sums) → 0 < i → i ≤ n → y ≡ x (i - 1) → SumsFrom x n i t → SumsFrom x n (i - 1) (prepend y t)
sums_back x n i y t p h e b =
    let size : n - (i - 1) ≡ suc (n - i) = omega arith in
    let next : (k : ℕ) → i + k ≡ i - 1 + suc k = λ k. omega arith in
    rw size (sums_more (n - i) (λ k. x (i - 1 + k)) y t (e ∙ ap x (omega arith)) (subst (λ (z : ℕ → ℕ). SumsOf (n - i) z t) (λ j k. x (next k j)) b))

pub sums_all : (x : ℕ → ℕ) (n i : ℕ) (t : Sums) → i ≡ 0 → SumsFrom x n i t → SumsOf n x t
sums_all x n i t e b =
    let size : n - i ≡ n = omega arith in
    let same : (k : ℕ) → i + k ≡ k = λ k. omega arith in
    subst (λ (z : ℕ → ℕ). SumsOf n z t) (λ j k. x (same k j)) (rw size at b)

-- a sum may be taken of each term by itself
pub record Linear (F : (ℕ → ℕ) → ℕ) : Type 0 where
  pub plus : (x y : ℕ → ℕ) → F (λ k. x k + y k) ≡ F x + F y
  pub times : (m : ℕ) (x : ℕ → ℕ) → F (λ k. m * x k) ≡ m * F x

pub plain_linear : (n : ℕ) → Linear (sum_below n)
plain_linear n = record { plus = sum_plus n; times = sum_times n }

pub weighted_linear : (n : ℕ) → Linear (weighted_sum n)
weighted_linear n =
    record {
      plus = λ x y. sum_same n (λ k. k * x k + k * y k) (λ k. k * (x k + y k)) (λ k h. mul-add k (x k) (y k)) ∙ sum_plus n (λ k. k * x k) (λ k. k * y k);
      times = λ m x. sum_same n (λ k. m * (k * x k)) (λ k. k * (m * x k)) (λ k h. swap k m (x k)) ∙ sum_times n m (λ k. k * x k);
    }
  where
    swap : (k m x : ℕ) → k * (m * x) ≡ m * (k * x)
    swap k m x = rw (← mul_assoc k m x, mul_comm k m, mul_assoc m k x)

-- at most 15 terms sum to no more than 15 larger ones
few : (n : ℕ) (x c : ℕ → ℕ) → n ≤ 15 → ((k : ℕ) → x k ≤ c k) → sum_below n x ≤ sum_below 15 c
few n x c h o =
    let all : n + (15 - n) ≡ 15 = omega arith in
    omega (arith, sum_mono n x c (λ k p. o k), rw all at (sum_fewer n (15 - n) c))

pub small_sums : (n : ℕ) (x : ℕ → ℕ) → n ≤ 15 → ((k : ℕ) → x k ≤ 510) → (sum_below n x ≤ 7650) × (weighted_sum n x ≤ 53550)
unfolding sum_below
small_sums n x h o = (few n x (λ k. 510) h o, few n (λ k. k * x k) (λ k. k * 510) h (λ k. mul-le-mul_left k (o k)))

-- numbers that stand a stride apart, each times its position
pub placed :
    (start stride n : ℕ) (x : ℕ → ℕ) →
    sum_below n (λ k. (start + stride * k + 1) * x k) ≡ stride * weighted_sum n x + (start + 1) * sum_below n x
placed start stride n x =
    sum_same n (λ k. stride * (k * x k) + (start + 1) * x k) (λ k. (start + stride * k + 1) * x k) (λ k h. one k (x k))
    ∙ rw (sum_plus n (λ k. stride * (k * x k)) (λ k. (start + 1) * x k), sum_times n stride (λ k. k * x k), sum_times n (start + 1) x)
  where
    one : (k y : ℕ) → (start + stride * k + 1) * y ≡ stride * (k * y) + (start + 1) * y
    one k y = omega (arith, add-mul (start + stride * k) 1 y, add-mul start (stride * k) y, mul_assoc stride k y, add-mul start 1 y)
