-- The laws of numbers in decimal: how many digits they have, and writing digits from the last to the first.
-- Assumes nothing.
use Rattle.std.proofs.Common.{ℕ, zero, suc, ◌+◌, ◌-◌, ◌*◌, ◌/◌, ◌%◌, ◌^◌, ◌≤◌, ◌<◌, List, [], ◌∷◌, ◌++◌, append_assoc, append-nil, ◌≡◌, refl, sym, ap, ◌∙◌, pow-suc, mul_assoc, add-suc, add-zero, div-one, le-div_iff_mul-le, mod-eq_of_lt, add-one, arith, lit<, length, take, drop, set, length-append, length-take, length-set, length-take-le, length-drop, take_at, drop_at, drop-drop, lt-ltb, le-ltb, ⊎_elim, not-suc-le-zero, div-lt_iff_lt-mul}
use Rattle.std.specs.Fmt as fmt
use Rattle.std.proofs.lemmas.Bool.{cases_lt}
use Rattle.std.proofs.lemmas.Fmt.{decimal_digit, decimal_step}
use Rattle.std.proofs.Math.Seq.{set_split, take-append-add}
use Rattle.std.proofs.Math.ListN.{drop_of_length-le}
use Rattle.std.proofs.Math.Nat.{one-le-pow, pow-succ', add-mul-div_left, add-mul-mod_self_left, mod-add-div, div-div-eq-div-mul}
use Rattle.buffers.specs.Text.{put_at}
use Rattle.buffers.proofs.Writing.{put_over, put_back}
use Rattle.buffers.specs.Decimal.{last_digit, last_digits, digits_within, decimal, fixed_point}

pub length_digits : (k n : ℕ) → length (last_digits k n) ≡ k
unfolding last_digits
length_digits zero n = refl
length_digits (suc k) n = length-append (last_digits k (n / 10)) (last_digit n) ∙ ap (λ (m : ℕ). m + 1) (length_digits k (n / 10)) ∙ add-one k

pub length_fixed : (whole d n : ℕ) → length (fixed_point whole d n) ≡ length (decimal whole) + 1 + d
length_fixed whole d n = simp (length-append, length_digits)

-- the digits before the last k make no difference to them
digits_above : (k a q : ℕ) → last_digits k (a + 10 ^ k * q) ≡ last_digits k a
unfolding last_digits
digits_above zero a q = refl
digits_above (suc k) a q =
    let e : a + 10 ^ suc k * q ≡ a + 10 * (10 ^ k * q) = ap (λ (m : ℕ). a + m) (ap (λ (m : ℕ). m * q) (pow-succ' 10 k) ∙ mul_assoc 10 (10 ^ k) q) in
    rw (e, add-mul-div_left a (10 ^ k * q) {y = 10} (lit< tt), add-mul-mod_self_left a 10 (10 ^ k * q), digits_above k (a / 10) q)

pub digits_rest : (k n : ℕ) → last_digits k (n % 10 ^ k) ≡ last_digits k n
digits_rest k n = sym (digits_above k (n % 10 ^ k) (n / 10 ^ k)) ∙ ap (last_digits k) (mod-add-div n (10 ^ k))

rest_of : (k n : ℕ) → n / 10 / 10 ^ k ≡ n / 10 ^ suc k
rest_of k n = div-div-eq-div-mul n 10 (10 ^ k) ∙ ap (λ (m : ℕ). n / m) (sym (pow-succ' 10 k))

digits_join : (j k n : ℕ) → last_digits (j + k) n ≡ last_digits j (n / 10 ^ k) ++ last_digits k n
unfolding last_digits
digits_join j zero n = rw (add-zero, div-one, append-nil)
digits_join j (suc k) n =
    rw (add-suc, digits_join j k (n / 10), rest_of k n) (append_assoc (last_digits j (n / 10 ^ suc k)) (last_digits k (n / 10)) (last_digit n))

pub four_of_two : (n : ℕ) → last_digits 4 n ≡ last_digits 2 (n / 100) ++ last_digits 2 (n % 100)
four_of_two n = digits_join 2 2 n ∙ ap (λ (l : List ℕ). last_digits 2 (n / 100) ++ l) (sym (digits_rest 2 n))

-- two digits over the two bytes of a part of a buffer
pub over_two : (b : List ℕ) (n : ℕ) → length b ≡ 2 → last_digits 2 n ++ drop 2 b ≡ last_digits 2 n
over_two b n l = rw (drop_of_length-le b {i = 2} (omega arith)) (append-nil (last_digits 2 n))

-- the last of i digits is stored first
pub put_digit : (b : List ℕ) (i n : ℕ) → 0 < i → i ≤ length b
    → last_digits (i - 1) (n / 10) ++ drop (i - 1) (set b (i - 1) (48 + n % 10)) ≡ last_digits i n ++ drop i b
unfolding last_digits
put_digit b zero n some room = absurd (omega arith)
put_digit b (suc j) n some room =
    let e : suc j - 1 ≡ j = omega arith in
    let lt : length (take j b) ≡ j = length-take-le j b (omega arith) in
    let d : drop j (set b j (48 + n % 10)) ≡ (48 + n % 10) ∷ drop (suc j) b =
    ap (drop j) (set_split b j (48 + n % 10) room) ∙ drop_at (take j b) ((48 + n % 10) ∷ drop (suc j) b) j lt in
    rw (e, d) (sym (append_assoc (last_digits j (n / 10)) (last_digit n) (drop (suc j) b)))

pub put_no_digit : (b : List ℕ) (i n : ℕ) → i ≡ 0 → last_digits i n ++ drop i b ≡ b
unfolding last_digits
put_no_digit b i n none = rw none refl

-- the last digits of a number are those of what dividing it leaves
pub last_two : (n : ℕ) → last_digits 2 (n % 100) ≡ last_digits 2 n
last_two = digits_rest 2

pub last_four : (n : ℕ) → last_digits 4 (n % 10000) ≡ last_digits 4 n
last_four = digits_rest 4

-- a text of k bytes, a point and a text over all of a part of a buffer, one after the other
over_point : (w b t : List ℕ) (k : ℕ) → length w ≡ k → k < length b
    → take (k + 1) (set (w ++ drop k b) k 46) ++ (t ++ drop (length (set (w ++ drop k b) k 46) - (k + 1)) (drop (k + 1) (set (w ++ drop k b) k 46)))
    ≡ w ++ (46 ∷ []) ++ t
over_point w b t k l some =
    let o : List ℕ = w ++ drop k b in
    let r : List ℕ = drop (suc k) o in
    let lo : k < length o = simp (length-append, length-drop) (omega arith) in
    let e : set o k 46 ≡ w ++ (46 ∷ r) = set_split o k 46 lo ∙ ap (λ (x : List ℕ). x ++ (46 ∷ r)) (take_at w (drop k b) k l) in
    let front : take (k + 1) (w ++ (46 ∷ r)) ≡ w ++ (46 ∷ []) = rw l at (take-append-add w (46 ∷ r) 1) in
    let none : drop (length (set o k 46) - (k + 1)) (drop (k + 1) (set o k 46)) ≡ [] =
    drop_of_length-le (drop (k + 1) (set o k 46)) {i = length (set o k 46) - (k + 1)} (rw length-drop (omega arith)) in
    rw (none, append-nil, e, front)

-- and where these are a whole part and digits
pub over_fixed : (b w t : List ℕ) (k whole n : ℕ) → w ≡ decimal whole → k ≡ length (decimal whole) → k < length b
    → t ≡ last_digits (length (take (length (set (w ++ drop k b) k 46) - (k + 1)) (drop (k + 1) (set (w ++ drop k b) k 46)))) n
    → take (k + 1) (set (w ++ drop k b) k 46) ++ (t ++ drop (length (set (w ++ drop k b) k 46) - (k + 1)) (drop (k + 1) (set (w ++ drop k b) k 46)))
    ≡ fixed_point whole (length b - (k + 1)) n
over_fixed b w t k whole n is counted some digits =
    let l : length w ≡ k = rw is (omega arith) in
    let o : List ℕ = set (w ++ drop k b) k 46 in
    let d : length (take (length o - (k + 1)) (drop (k + 1) o)) ≡ length b - (k + 1) = simp (length-take, length-drop, length-set, length-append) (omega arith) in
    let after : t ≡ last_digits (length b - (k + 1)) n = rw d at digits in
    rw (over_point w b t k l some, is, after)

-- two bounds above n give the same digits
bound_free : (f g n : ℕ) → n < f → n < g → digits_within f n ≡ digits_within g n
unfolding digits_within
bound_free zero g n h l = absurd (not-suc-le-zero h)
bound_free (suc f) zero n h l = absurd (not-suc-le-zero l)
bound_free (suc f) (suc g) n h l =
    ⊎_elim
    (λ small. rw (lt-ltb n 10 small))
    (λ large. rw (le-ltb n 10 large) (ap (λ (t : List ℕ). t ++ last_digit n) (bound_free f g (n / 10) (omega arith) (omega arith))))
    (cases_lt n 10)

decimal_one : (n : ℕ) → n < 10 → decimal n ≡ last_digit n
unfolding decimal digits_within
decimal_one n h = rw (lt-ltb n 10 h)

decimal_more : (n : ℕ) → 10 ≤ n → decimal n ≡ decimal (n / 10) ++ last_digit n
unfolding decimal digits_within
decimal_more n h = rw (le-ltb n 10 h) (ap (λ (t : List ℕ). t ++ last_digit n) (bound_free n (suc (n / 10)) (n / 10) (omega arith) (omega arith)))

-- of a number of 64 bits they are std's
within_is_std : (f n : ℕ) → n < f → n < 2 ^ 64 → digits_within f n ≡ fmt.decimal n
unfolding digits_within
within_is_std zero n h s = absurd (not-suc-le-zero h)
within_is_std (suc f) n h s =
    ⊎_elim
    (λ small. rw (lt-ltb n 10 small, mod-eq_of_lt {n = n} {m = 10} small) (sym (decimal_digit n small)))
    (λ large. rw (le-ltb n 10 large, within_is_std f (n / 10) (omega arith) (omega arith)) (sym (decimal_step n large s)))
    (cases_lt n 10)

pub decimal_is_std : (n : ℕ) → n < 2 ^ 64 → decimal n ≡ fmt.decimal n
unfolding decimal
decimal_is_std n s = within_is_std (suc n) n (omega arith) s

pub length_one : (n : ℕ) → n < 10 → length (decimal n) ≡ 1
length_one n h = ap length (decimal_one n h)

length_more : (n : ℕ) → 10 ≤ n → length (decimal n) ≡ length (decimal (n / 10)) + 1
length_more n h = ap length (decimal_more n h) ∙ length-append (decimal (n / 10)) (last_digit n)

pub decimal_some : (n : ℕ) → 1 ≤ length (decimal n)
decimal_some n = ⊎_elim (λ small. omega (arith, length_one n small)) (λ large. omega (arith, length_more n large)) (cases_lt n 10)

-- a number below 10 ^ k has at most k digits
pub decimal_short : (k n : ℕ) → 1 ≤ k → n < 10 ^ k → length (decimal n) ≤ k
decimal_short zero n h l = absurd (not-suc-le-zero h)
decimal_short (suc zero) n h l = let l' : n < 10 = l in omega (arith, length_one n l')
decimal_short (suc (suc k)) n h l =
    ⊎_elim
    (λ (small : n < 10). omega (arith, length_one n small))
    (λ (large : 10 ≤ n).
    let l' : n < 10 ^ suc k * 10 = rw pow-suc at l in
    let i = decimal_short (suc k) (n / 10) (omega arith) ((div-lt_iff_lt-mul {k = 10} {x = n} {y = 10 ^ suc k} (lit< tt)).1 l') in
    omega (arith, length_more n large))
    (cases_lt n 10)

-- and one of 10 ^ k or more has more than k
pub decimal_long : (k n : ℕ) → 10 ^ k ≤ n → k < length (decimal n)
decimal_long zero n h = decimal_some n
decimal_long (suc k) n h =
    let h' : 10 ^ k * 10 ≤ n = rw pow-suc at h in
    let p : 10 ^ k ≤ n / 10 = (le-div_iff_mul-le {k = 10} {x = 10 ^ k} {y = n} (lit< tt)).1 h' in
    let one = one-le-pow k 10 (lit< tt) in
    omega (arith, decimal_long k (n / 10) p, length_more n (omega arith))

-- so the least count that is enough, but at least one, is that of the digits
pub decimal_counted : (k n : ℕ) → 1 ≤ k → n < 10 ^ k → (1 < k → 10 ^ (k - 1) ≤ n) → k ≡ length (decimal n)
decimal_counted zero n some l h = absurd (omega arith)
decimal_counted (suc zero) n some l h = let l' : n < 10 = l in sym (length_one n l')
decimal_counted (suc (suc k)) n some l h =
    let e : suc (suc k) - 1 ≡ suc k = omega arith in
    omega (arith, decimal_long (suc k) n (rw e at (h (omega arith))), decimal_short (suc (suc k)) n (omega arith) l)

pub length_two : (n : ℕ) → 10 ≤ n → n < 100 → length (decimal n) ≡ 2
length_two n h l = sym (decimal_counted 2 n (omega arith) l (λ _. h))

-- the last k digits of a number that has more, and the number before them
decimal_join : (k n : ℕ) → 10 ^ k ≤ n → decimal n ≡ decimal (n / 10 ^ k) ++ last_digits k n
unfolding last_digits
decimal_join zero n h = rw (div-one, append-nil)
decimal_join (suc k) n h =
    let h' : 10 ^ k * 10 ≤ n = rw pow-suc at h in
    let p : 10 ^ k ≤ n / 10 = (le-div_iff_mul-le {k = 10} {x = 10 ^ k} {y = n} (lit< tt)).1 h' in
    let one = one-le-pow k 10 (lit< tt) in
    rw (decimal_more n (omega arith), decimal_join k (n / 10) p, rest_of k n)
    (append_assoc (decimal (n / 10 ^ suc k)) (last_digits k (n / 10)) (last_digit n))

pub decimal_fewer : (k n : ℕ) → 10 ^ k ≤ n → length (decimal n) ≡ length (decimal (n / 10 ^ k)) + k
decimal_fewer k n h =
    ap length (decimal_join k n h) ∙ length-append (decimal (n / 10 ^ k)) (last_digits k n) ∙ ap (λ (m : ℕ). length (decimal (n / 10 ^ k)) + m) (length_digits k n)

pub four_fewer : (n : ℕ) → 10000 ≤ n → length (decimal n) ≡ length (decimal (n / 10000)) + 4
four_fewer = decimal_fewer 4

pub two_fewer : (n : ℕ) → 100 ≤ n → length (decimal n) ≡ length (decimal (n / 100)) + 2
two_fewer = decimal_fewer 2

-- the last k are written first, anywhere in a buffer; no proof cites it, docs/DESIGN-PASS.md names it
pub put_last_of : (b : List ℕ) (at k n : ℕ) {end : ℕ} → 10 ^ k ≤ n → end ≡ at + length (decimal n) → end ≤ length b
    → put_at (put_at b (end - k) (last_digits k (n % 10 ^ k))) at (decimal (n / 10 ^ k)) ≡ put_at b at (decimal n)
put_last_of b at k n {end} h stop room =
    let lk = length_digits k n in
    let ln = decimal_fewer k n h in
    let e : end - k ≡ at + length (decimal (n / 10 ^ k)) = omega arith in
    rw (e, digits_rest k n, decimal_join k n h) (put_back b at (decimal (n / 10 ^ k)) (last_digits k n) (omega arith))

-- and the same from the start of a part of a buffer, byte for byte
put_last_at_start : (b : List ℕ) (k n end : ℕ) → 10 ^ k ≤ n → end ≡ length (decimal n) → end ≤ length b
    → decimal (n / 10 ^ k) ++ drop (end - k) (take (end - k) b ++ (last_digits k (n % 10 ^ k) ++ drop k (drop (end - k) b))) ≡ decimal n ++ drop end b
put_last_at_start b k n end h stop room =
    let fewer = decimal_fewer k n h in
    let lt : length (take (end - k) b) ≡ end - k = length-take-le (end - k) b (omega arith) in
    let e : end - k + k ≡ end = omega arith in
    rw (drop_at (take (end - k) b) (last_digits k (n % 10 ^ k) ++ drop k (drop (end - k) b)) (end - k) lt, digits_rest k n, decimal_join k n h, drop-drop k (end - k) b, e)
    (sym (append_assoc (decimal (n / 10 ^ k)) (last_digits k n) (drop end b)))

pub put_last_four : (b : List ℕ) (n end : ℕ) → 10000 ≤ n → end ≡ length (decimal n) → end ≤ length b
    → decimal (n / 10000) ++ drop (end - 4) (take (end - 4) b ++ (last_digits 4 (n % 10000) ++ drop 4 (drop (end - 4) b))) ≡ decimal n ++ drop end b
put_last_four b = put_last_at_start b 4

pub put_last_two : (b : List ℕ) (n end : ℕ) → 100 ≤ n → end ≡ length (decimal n) → end ≤ length b
    → decimal (n / 100) ++ drop (end - 2) (take (end - 2) b ++ (last_digits 2 (n % 100) ++ drop 2 (drop (end - 2) b))) ≡ decimal n ++ drop end b
put_last_two b = put_last_at_start b 2

-- what gives the digits of a number in fours and twos, the last of them first
pub ruleset in_fours_and_twos = (four_fewer, two_fewer, put_last_four, put_last_two, length-take-le)

-- a number of one digit, anywhere in a buffer; no proof cites it, docs/DESIGN-PASS.md names it
pub put_one : (b : List ℕ) (at n : ℕ) → n < 10 → at < length b → set b at (48 + n) ≡ put_at b at (decimal n)
put_one b at n h room =
    let one : decimal n ≡ (48 + n) ∷ [] = decimal_one n h ∙ ap (λ (m : ℕ). (48 + m) ∷ []) (mod-eq_of_lt h) in
    let over : put_at b at ((48 + n) ∷ []) ≡ take at b ++ ((48 + n) ∷ drop (suc at) b) = put_over b at ((48 + n) ∷ []) (omega arith) ∙ simp (append_assoc, add-one) in
    set_split b at (48 + n) room ∙ sym over ∙ ap (put_at b at) (sym one)

-- and over the one byte of a part of a buffer
pub over_one : (b : List ℕ) (n : ℕ) → n < 10 → length b ≡ 1 → set b 0 (48 + n) ≡ decimal n
over_one [] n h l = absurd (omega arith)
over_one (x ∷ []) n h l = sym (rw (mod-eq_of_lt h) at (decimal_one n h))
over_one (x ∷ y ∷ b) n h l = absurd (omega arith)

pub decimal_two : (n : ℕ) → 10 ≤ n → n < 100 → decimal n ≡ last_digits 2 n
unfolding last_digits
decimal_two n h l =
    decimal_more n h ∙ ap (λ (t : List ℕ). t ++ last_digit n) (decimal_one (n / 10) (omega arith))

-- what gives a number of at most two digits
pub ruleset up_to_two_digits = (length_one, length_two, over_one, decimal_two, over_two)
