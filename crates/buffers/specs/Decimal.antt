-- Numbers in decimal.
-- Assumes nothing.
use Rattle.std.specs.Prelude.{ℕ, zero, suc, ◌+◌, ◌/◌, ◌%◌, cond, List, [], ◌∷◌, ◌++◌, ltb, codes}

-- the last digit of n, in ASCII
abbrev pub last_digit : ℕ → List ℕ
last_digit n = (48 + n % 10) ∷ []

-- the last k digits of n
unfoldable pub last_digits : ℕ → ℕ → List ℕ
last_digits zero n = []
last_digits (suc k) n = last_digits k (n / 10) ++ last_digit n

-- the digits of n with no zeros in front, and no more of them than the first number
unfoldable pub digits_within : ℕ → ℕ → List ℕ
digits_within zero n = []
digits_within (suc k) n = cond (ltb n 10) (last_digit n) (digits_within k (n / 10) ++ last_digit n)

-- n in decimal: it has fewer digits than n + 2. Not std's word, which goes to 64 digits and no further; of every number of 64 bits both
-- say the same (the law `decimal_is_std`)
unfoldable pub decimal : ℕ → List ℕ
decimal n = digits_within (suc n) n

-- a whole part in decimal, a point, and the last d digits of n
abbrev pub fixed_point : ℕ → ℕ → ℕ → List ℕ
fixed_point whole d n = decimal whole ++ codes "." ++ last_digits d n
