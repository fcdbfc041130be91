-- The check, from the sums of its words.
-- Assumes nothing.
use Rattle.std.proofs.Common.{◌≡◌, ℕ, ◌+◌, ◌-◌, ◌*◌, ◌/◌, ◌%◌, ◌<◌, ◌≤◌, List, length, take, get_or, le-ltb, lt-ltb, sym, ap, ◌∙◌, add-zero, add-mul, mul-le-mul_left, mul-add, arith}
use Rattle.std.proofs.lemmas.List.{get_or-take}
use Rattle.numbers.specs.Below.{sum_below}
use Rattle.numbers.proofs.Below.{sum_split, sum_plus, sum_times, sum_same, sum_rows, sum_columns}
use Rattle.buffers.specs.Bytes.{number_at}
use Rattle.buffers.proofs.Bytes.{number_one, number_join}
use Rattle.blocks.specs.Block.{checksum, checksum_or_zero}
use Rattle.blocks.specs.Words.{word_sum, odd_bytes, front_at, back_at, odd_at, word_at, weighted_sum, SumsOf, halves, weighed}
use Rattle.blocks.specs.declared.check.Sums.{Sums}
use Rattle.blocks.proofs.Sums.{Linear, plain_linear, weighted_linear, small_sums, placed}

-- the word at a position, from its four bytes
pub number_four :
    (s : List ℕ) (p : ℕ) → p + 4 ≤ length s →
    number_at 4 s p ≡ get_or s p 0 + 256 * get_or s (p + 1) 0 + 65536 * get_or s (p + 2) 0 + 16777216 * get_or s (p + 3) 0
number_four s p h =
    let e : p + 2 + 1 ≡ p + 3 = omega arith in
    rw (
      number_join 2 2 s p (omega arith),
      number_join 1 1 s p (omega arith),
      number_join 1 1 s (p + 2) (omega arith),
      e,
      number_one s p (omega arith),
      number_one s (p + 1) (omega arith),
      number_one s (p + 2) (omega arith),
      number_one s (p + 3) (omega arith),
    )
    (omega arith)

pub word_parts : (s : List ℕ) (p : ℕ) → p + 4 ≤ length s → number_at 4 s p ≡ word_at s p
word_parts s p h = omega (arith, number_four s p h)

pub word_odd : (s : List ℕ) (p : ℕ) → ((q : ℕ) → get_or s q 0 ≤ 255) → odd_bytes (word_at s p) ≡ odd_at s p
word_odd s p small = omega (arith, small p, small (p + 1), small (p + 2), small (p + 3))

-- what a word adds to the check, from its pairs and its odd bytes
word_sum_lem :
    (s : List ℕ) (p : ℕ) →
    word_sum s p ≡ (p + 1) * (front_at s p + back_at s p) + 2 * back_at s p + (get_or s (p + 1) 0 + get_or s (p + 3) 0)
unfolding word_sum sum_below
word_sum_lem s p =
    let b0 = get_or s p 0 in
    let b1 = get_or s (p + 1) 0 in
    let b2 = get_or s (p + 2) 0 in
    let b3 = get_or s (p + 3) 0 in
    rw add-zero (omega (arith, mul-add (p + 1) (b0 + b1) (b2 + b3), mul-add (p + 1) b0 b1, mul-add (p + 1) b2 b3, add-mul (p + 1) 1 b1, add-mul (p + 1) 2 b2, add-mul (p + 1) 3 b3))

-- the check by words, and these in eight columns of 15 with seven after them
pub in_words :
    (s : List ℕ) →
    sum_below 8 (λ j. sum_below 15 (λ k. word_sum s (4 * j + 32 * k))) + sum_below 7 (λ k. word_sum s (480 + 4 * k)) ≡ checksum s
unfolding checksum word_sum
in_words s =
    let g : ℕ → ℕ = λ p. (p + 1) * get_or s p 0 in
    let word : ℕ → ℕ = λ k. word_sum s (4 * k) in
    let words : sum_below 508 g ≡ sum_below 127 word = sum_rows 127 4 g in
    let split = sum_split 120 7 word in
    let columns : sum_below 120 word ≡ sum_below 8 (λ j. sum_below 15 (λ k. word (8 * k + j))) = sum_columns 15 8 word in
    let each =
    sum_same 8 (λ j. sum_below 15 (λ k. word (8 * k + j))) (λ j. sum_below 15 (λ k. word_sum s (4 * j + 32 * k)))
    (λ j h. sum_same 15 (λ k. word (8 * k + j)) (λ k. word_sum s (4 * j + 32 * k)) (λ k q. ap (word_sum s) (omega arith))) in
    let rest = sum_same 7 (λ k. word (120 + k)) (λ k. word_sum s (480 + 4 * k)) (λ k q. ap (word_sum s) (omega arith)) in
    omega (arith, words, split, columns, each, rest)

-- what is left of a sum modulo 2^32 when 255 times another is taken off
cancel : (x y k : ℕ) → x < 4294967296 → y < 4294967296 → (x + k) % 4294967296 ≡ (y + k) % 4294967296 → x ≡ y
cancel x y k p q e = omega arith

same_modulo : (x y q : ℕ) → x ≡ y + 4294967296 * q → x % 4294967296 ≡ y % 4294967296
same_modulo x y q e = omega arith

-- modulo 2^32: where 256 times odd is taken off words, and odd is added once again, 255 times odd is taken off; no proof cites it,
-- docs/PORT.md names it
pub taken_off :
    (words odd even r : ℕ) → (even + odd % 16777216 * 256) % 4294967296 ≡ words → r ≡ (even + odd) % 4294967296 →
    (r + 255 * odd) % 4294967296 ≡ words
taken_off words odd even r sub add =
    sym (same_modulo (even + 256 * odd) (r + 255 * odd) ((even + odd) / 4294967296) (omega arith))
    ∙ same_modulo (even + 256 * odd) (even + odd % 16777216 * 256) (odd / 16777216) (omega arith)
    ∙ sub

left_is :
    (r w o p q : ℕ) → r < 4294967296 → p < 4294967296 → w ≡ (p + 255 * q) % 4294967296 → o ≡ q % 4294967296 →
    (r + 255 * o) % 4294967296 ≡ w → r ≡ p
left_is r w o p q h k e f g =
    cancel r p (255 * o) h k (g ∙ e ∙ same_modulo (p + 255 * q) (p + 255 * o) (255 * (q / 4294967296)) (omega arith))

-- the pairs of some words, whichever sum is taken of them
pairs_left :
    (F : (ℕ → ℕ) → ℕ) → Linear F → (front back odd : ℕ → ℕ) → F front ≤ 53550 → F back ≤ 53550 →
    (r w o : ℕ) → r < 4294967296 → w ≡ F (λ k. front k + 65536 * back k + 255 * odd k) % 4294967296 → o ≡ F odd % 4294967296 →
    (r + 255 * o) % 4294967296 ≡ w → r ≡ F front + 65536 * F back
pairs_left F l front back odd f b r w o h e g left =
    let parts : F (λ k. front k + 65536 * back k + 255 * odd k) ≡ F front + 65536 * F back + 255 * F odd =
    omega (arith, l.plus (λ k. front k + 65536 * back k) (λ k. 255 * odd k), l.plus front (λ k. 65536 * back k), l.times 65536 back, l.times 255 odd) in
    left_is r w o (F front + 65536 * F back) (F odd) h (omega arith) (rw parts at e) g left

-- two numbers in the halves of one
in_halves : (x a b : ℕ) → x ≡ a + 65536 * b → a < 65536 → (halves x ≡ a + b) × (x / 65536 ≡ b)
in_halves x a b e h = (omega arith, omega arith)

short_modulo : (x : ℕ) → x ≤ 15300 → x % 32768 ≡ x
short_modulo x h = omega arith

-- no row starts after the last one
pub row_within : (stride n i : ℕ) → i < n → stride * i ≤ stride * (n - 1)
row_within stride n i h = mul-le-mul_left stride (omega arith)

module _ (s : List ℕ) (start stride n : ℕ) (small : (q : ℕ) → get_or s q 0 ≤ 255) (short : n ≤ 15) where
  -- the words' sum, from the sums of words and of their odd bytes
  pub words_sum :
      {words odd : Sums} {pairs weighted : ℕ} → pairs < 4294967296 → weighted < 4294967296 →
      SumsOf n (λ k. word_at s (start + stride * k)) words → SumsOf n (λ k. odd_at s (start + stride * k)) odd →
      (pairs + 255 * odd.plain) % 4294967296 ≡ words.plain → (weighted + 255 * odd.weighted) % 4294967296 ≡ words.weighted →
      weighed start stride pairs weighted odd.plain ≡ sum_below n (λ k. word_sum s (start + stride * k))
  words_sum {words} {odd} {pairs} {weighted} p q w o e f =
      let at : ℕ → ℕ = λ k. start + stride * k in
      let front : ℕ → ℕ = λ k. front_at s (at k) in
      let back : ℕ → ℕ = λ k. back_at s (at k) in
      let low : ℕ → ℕ = λ k. get_or s (at k + 1) 0 in
      let high : ℕ → ℕ = λ k. get_or s (at k + 3) 0 in
      let fronts = small_sums n front short (λ k. omega (arith, small (at k), small (at k + 1))) in
      let backs = small_sums n back short (λ k. omega (arith, small (at k + 2), small (at k + 3))) in
      let lows = small_sums n low short (λ k. omega (arith, small (at k + 1))) in
      let highs = small_sums n high short (λ k. omega (arith, small (at k + 3))) in
      let plain = pairs_left (sum_below n) (plain_linear n) front back (λ k. odd_at s (at k)) (omega arith) (omega arith) pairs _ _ p w.is_plain o.is_plain e in
      let running = pairs_left (weighted_sum n) (weighted_linear n) front back (λ k. odd_at s (at k)) (omega arith) (omega arith) weighted _ _ q w.is_weighted o.is_weighted f in
      let odd_is : odd.plain ≡ sum_below n low + 65536 * sum_below n high =
      omega (arith, o.is_plain, sum_plus n low (λ k. 65536 * high k), sum_times n 65536 high) in
      let pairs-are = in_halves pairs (sum_below n front) (sum_below n back) plain (omega arith) in
      let weighted-are = in_halves weighted (weighted_sum n front) (weighted_sum n back) running (omega arith) in
      let odd-are = in_halves odd.plain (sum_below n low) (sum_below n high) odd_is (omega arith) in
      let each =
      sum_same n (λ k. (at k + 1) * (front k + back k) + 2 * back k + (low k + high k)) (λ k. word_sum s (at k)) (λ k h. word_sum_lem s (at k)) in
      let bytes = rw ((weighted_linear n).plus front back, sum_plus n front back) at (placed start stride n (λ k. front k + back k)) in
      rw (weighted-are.0, pairs-are.0, pairs-are.1, odd-are.0, short_modulo (sum_below n front + sum_below n back) (omega arith))
      (omega (
        arith,
        each,
        sum_plus n (λ k. (at k + 1) * (front k + back k) + 2 * back k) (λ k. low k + high k),
        sum_plus n (λ k. (at k + 1) * (front k + back k)) (λ k. 2 * back k),
        sum_plus n low high,
        sum_times n 2 back,
        bytes,
      ))

-- the check of bytes too few, and that of the first 508 of them
pub checksum_short : (s : List ℕ) → length s < 508 → 0 ≡ checksum_or_zero s
unfolding checksum_or_zero
checksum_short s h = rw (lt-ltb (length s) 508 h)

pub checksum_first : (s first : List ℕ) → 508 ≤ length s → first ≡ take 508 s → checksum first ≡ checksum_or_zero s
unfolding checksum checksum_or_zero
checksum_first s first h e =
    rw (le-ltb (length s) 508 h, e) (sum_same 508 (λ p. (p + 1) * get_or s p 0) (λ p. (p + 1) * get_or (take 508 s) p 0) (λ p q. rw (get_or-take 508 s p 0 q)))
