-- The laws of rounding: it keeps the order, and what it gives is never further off than half a unit.
-- Assumes nothing.
use Rattle.std.proofs.Common.{ℕ, ◌+◌, ◌*◌, ◌/◌, ◌%◌, ◌≤◌, ◌<◌, div-mul-le_self, le-div_iff_mul-le, le_trans, mul-le-mul_left, mul_assoc, add-mul, one-mul, div-add-mod', arith, lit<, ◌≡◌}
use Rattle.std.proofs.Math.Nat.{div-zero, lt-div-mul-add, mul-div-mul_right, div-eq_of_lt-le}
use Rattle.numbers.specs.Rounding.{nearest, Within}

pub nearest_mono : {d m n : ℕ} → 0 < d → m ≤ n → nearest d m ≤ nearest d n
unfolding nearest
nearest_mono {d} {m} {n} p h =
    (le-div_iff_mul-le {k = d * 2} (omega arith)).1 (le_trans (div-mul-le_self (m * 2 + d) (d * 2)) (omega arith))

-- twice the rounded number of units lies no further from twice the number than one unit
pub nearest_half : (d n : ℕ) → 0 < d → Within d (nearest d n * d * 2) (n * 2)
unfolding nearest
nearest_half d n p =
    let q : 0 < d * 2 = omega arith in
    rw mul_assoc (omega (arith, div-mul-le_self (n * 2 + d) (d * 2), lt-div-mul-add {a = n * 2 + d} q))

-- rounding both moves a difference by no more than one unit
pub nearest_near : (d m n : ℕ) → 0 < d → Within d (nearest d n * d + m) (nearest d m * d + n)
nearest_near d m n p = omega (arith, nearest_half d m p, nearest_half d n p)

-- where the unit is even, half a unit is added and the rest is cut off
pub nearest_even : (h n : ℕ) → nearest (h * 2) n ≡ (n + h) / (h * 2)
unfolding nearest
nearest_even h n = rw (← add-mul) (mul-div-mul_right {m = 2} (n + h) (h * 2) (lit< tt))

-- where d is 0 there is nothing to round to
pub nearest_none : (n : ℕ) → nearest 0 n ≡ 0
unfolding nearest
nearest_none n = div-zero (n * 2 + 0)

module _ (d n : ℕ) (p : 0 < d) where
  whole : n * 2 + d ≡ n / d * (d * 2) + (n % d * 2 + d)
  whole = let e = div-add-mod' n d in rw (← mul_assoc) (omega arith)

  -- half a unit over the whole units goes up
  pub nearest_up : d ≤ n % d * 2 → n % d < d → nearest d n ≡ n / d + 1
  unfolding nearest
  nearest_up h l =
      div-eq_of_lt-le (d * 2)
      (rw (add-mul, one-mul) (omega (arith, whole)))
      (rw (add-mul, add-mul, one-mul) (omega (arith, whole)))

  -- less than half a unit over them goes down
  pub nearest_down : n % d * 2 < d → nearest d n ≡ n / d
  unfolding nearest
  nearest_down h = div-eq_of_lt-le (d * 2) (omega (arith, whole)) (rw (add-mul, one-mul) (omega (arith, whole)))

  -- and one unit more than the whole ones, where half a unit or more lies over them, is no more than n; no proof cites it, docs/PORT.md
  -- names it
  pub up_fits : d ≤ n % d * 2 → n / d + 1 ≤ n
  up_fits h = omega (arith, div-add-mod' n d, mul-le-mul_left (n / d) p)
