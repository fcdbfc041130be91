-- A bit of the flags taken out by `&` is the digit that the definitions take out by `/` and `%`.
-- Assumes nothing.
use Rattle.std.proofs.Common.{◌≡◌, ℕ, zero, suc, ◌*◌, ◌/◌, ◌%◌, ◌<◌, ◌≤◌, not, eqb, refl, arith}
use Rattle.std.specs.Prelude.{bit_and}
use Rattle.std.proofs.lemmas.Bool.{ne_eqb}
use Rattle.std.proofs.lemmas.Nat.Bits.{and_pow, and_high}

digit : (bit masked : ℕ) → bit < 2 → (bit ≡ 0 → masked ≡ 0) → (bit ≡ 1 → 1 ≤ masked) → not (eqb masked 0) ≡ eqb bit 1
digit zero m below none some = rw (none refl) refl
digit (suc zero) m below none some = rw (ne_eqb m 0 (λ z. omega (arith, z, some refl))) refl
digit (suc (suc b)) m below none some = absurd (omega arith)

pub transfer_bit : (flags : ℕ) → not (eqb (bit_and flags 1) 0) ≡ eqb (flags % 2) 1
transfer_bit flags =
    let e : bit_and flags 1 ≡ flags / 1 % 2 * 1 = and_pow flags 0 in
    digit (flags % 2) (bit_and flags 1) (omega arith) (λ z. omega (arith, e, z)) (λ o. omega (arith, e, o))

pub gmp_bit : (flags : ℕ) → not (eqb (bit_and flags 2) 0) ≡ eqb (flags / 2 % 2) 1
gmp_bit flags =
    let e : bit_and flags 2 ≡ flags / 2 % 2 * 2 = and_pow flags 1 in
    digit (flags / 2 % 2) (bit_and flags 2) (omega arith) (λ z. omega (arith, e, z)) (λ o. omega (arith, e, o))

pub choice_optant_bit : (flags : ℕ) → not (eqb (bit_and flags 4) 0) ≡ eqb (flags / 4 % 2) 1
choice_optant_bit flags =
    let e : bit_and flags 4 ≡ flags / 4 % 2 * 4 = and_pow flags 2 in
    digit (flags / 4 % 2) (bit_and flags 4) (omega arith) (λ z. omega (arith, e, z)) (λ o. omega (arith, e, o))

-- 248 is all the bits above those three
pub unused_bits : (flags : ℕ) → flags < 256 → not (eqb (bit_and flags 248) 0) ≡ not (eqb (flags / 8) 0)
unused_bits flags byte =
    let high : bit_and flags 248 ≡ flags / 8 % 32 * 8 = and_high flags 5 3 in
    go (flags / 8) (bit_and flags 248) (omega (arith, byte, high))
  where
    go : (n masked : ℕ) → masked ≡ n * 8 → not (eqb masked 0) ≡ not (eqb n 0)
    go zero m e = let none : m ≡ 0 = omega (arith, e) in rw none refl
    go (suc n) m e = rw (ne_eqb m 0 (λ z. omega (arith, z, e)), ne_eqb (suc n) 0 (λ z. omega (arith, z))) refl
