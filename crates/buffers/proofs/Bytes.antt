-- The laws of numbers in bytes, over the width and the position.
-- Assumes nothing.
use Rattle.std.proofs.Common.{ℕ, zero, suc, ◌+◌, ◌-◌, ◌*◌, ◌^◌, ◌≤◌, ◌<◌, mul_assoc, arith, List, [], ◌∷◌, ◌++◌, ◌≡◌, length, take, drop, get_or, length-drop, drop-cons, drop-drop, take-add, length-take-le, le-leb, Bool, true, false, cond, leb, refl, sym, ap, ◌∙◌, Some, None, replicate, not-suc-le-zero}
use Rattle.std.proofs.Math.Nat.{pow-succ'}
use Rattle.std.proofs.Math.Seq.{take-suc, take-length}
use Rattle.std.proofs.lemmas.List.{length-replicate}
use Rattle.std.specs.Option.{unwrap_or}
use Rattle.std.proofs.lemmas.Bool.{leb-true}
use Rattle.std.specs.Int.{byte_worth, sum_through}
use Rattle.buffers.specs.Bytes.{part_at, bytes_at, little_endian, number_at, number_from_le_bytes}

-- bytes and then more bytes
append : (a b : List ℕ) → little_endian (a ++ b) ≡ little_endian a + 256 ^ length a * little_endian b
unfolding little_endian
append [] b = omega arith
append (x ∷ a) b = rw (append a b, pow-succ' 256 (length a), mul_assoc 256 (256 ^ length a) (little_endian b)) (omega arith)

within : (width : ℕ) (s : List ℕ) (p : ℕ) → p + width ≤ length s → number_at width s p ≡ little_endian (take width (drop p s))
unfolding number_at
within width s p h = rw (le-leb (p + width) (length s) h)

pub number_one : (s : List ℕ) (p : ℕ) → p + 1 ≤ length s → number_at 1 s p ≡ get_or s p 0
unfolding little_endian
number_one s p h = rw (within 1 s p h, drop-cons s p 0 (omega arith)) (omega arith)

-- a number of m + n bytes, from the first m and the n after them
pub number_join : (m n : ℕ) (s : List ℕ) (p : ℕ) → p + (m + n) ≤ length s → number_at (m + n) s p ≡ number_at m s p + 256 ^ m * number_at n s (p + m)
number_join m n s p h =
    let l : length (take m (drop p s)) ≡ m = length-take-le m (drop p s) (rw length-drop (omega arith)) in
    rw (within (m + n) s p h, within m s p (omega arith), within n s (p + m) (omega arith), take-add, append, l, drop-drop)

-- bytes of zero hold the number 0
pub number_zero : (width : ℕ) (s : List ℕ) (p : ℕ) → p + width ≤ length s → ((k : ℕ) → k < width → get_or s (p + k) 0 ≡ 0) → number_at width s p ≡ 0
unfolding little_endian
number_zero zero s p h z = within 0 s p h
number_zero (suc n) s p h z =
    let e : suc n ≡ 1 + n = omega arith in
    let here : p ≡ p + 0 = omega arith in
    let first : get_or s p 0 ≡ 0 = rw here (z 0 (omega arith)) in
    let rest = number_zero n s (p + 1) (omega arith) (λ k q. let next : p + 1 + k ≡ p + (k + 1) = omega arith in rw next (z (k + 1) (omega arith))) in
    rw (e, number_join 1 n s p (omega arith), number_one s p (omega arith), first, rest) (omega arith)

-- std's number of the first bytes of a list
sum_of_first : (k : ℕ) (bs : List ℕ) → suc k ≤ length bs → sum_through (λ i. byte_worth i (get_or bs i 0)) k ≡ little_endian (take (suc k) bs)
unfolding little_endian
sum_of_first zero [] h = absurd (not-suc-le-zero h)
sum_of_first zero (b ∷ bs) h = omega arith
sum_of_first (suc k) bs h =
    let l : length (take (suc k) bs) ≡ suc k = length-take-le (suc k) bs (omega arith) in
    rw (sum_of_first k bs (omega arith), take-suc bs (suc k) 0 h, append (take (suc k) bs) (get_or bs (suc k) 0 ∷ []), l) (omega arith)

zeros : (n : ℕ) → little_endian (replicate n 0) ≡ 0
unfolding little_endian
zeros zero = refl
zeros (suc n) = omega (arith, zeros n)

-- the number that std makes of n bytes
pub number_of : (n : ℕ) (bs : List ℕ) → length bs ≡ n → number_from_le_bytes n bs ≡ little_endian bs
unfolding little_endian
number_of zero [] l = refl
number_of zero (b ∷ bs) l = absurd (omega arith)
number_of (suc k) bs l =
    let e : suc k - 1 ≡ k = omega arith in
    rw e (sum_of_first k bs (omega arith) ∙ ap little_endian (ap (λ (n : ℕ). take n bs) (sym l) ∙ take-length bs))

-- the number that std makes of the bytes at an index
pub number_of_bytes : (n : ℕ) (s : List ℕ) (p : ℕ) → number_from_le_bytes n (bytes_at n s p) ≡ number_at n s p
unfolding bytes_at part_at number_at
number_of_bytes n s p = by (leb (p + n) (length s)) refl
  where
    by : (b : Bool) → leb (p + n) (length s) ≡ b → number_from_le_bytes n (unwrap_or (cond b (Some (take n (drop p s))) None) (replicate n 0)) ≡ cond b (little_endian (take n (drop p s))) 0
    by true e = number_of n (take n (drop p s)) (length-take-le n (drop p s) (rw length-drop (omega (arith, leb-true (p + n) (length s) e))))
    by false e = number_of n (replicate n 0) (length-replicate n 0) ∙ zeros n
