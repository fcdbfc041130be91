-- The signed difference of two unsigned numbers, as a 64-bit signed local holds it. Of the proofs only those of this file cite these.
-- Assumes nothing.
use Rattle.std.proofs.Common.{◌≡◌, refl, sym, ap, ap₂, ◌∙◌, Bool, true, false, cond, ℕ, zero, suc, ◌-◌, ◌<◌, ◌^◌, arith, ltb, ℤ, pos, negsuc, ◌-ℤ◌, w64, SFits, to_z, of_z, to_z-of_z}
use Rattle.std.proofs.Math.Dec.{leb-suc-zero}
use Rattle.std.proofs.Math.IntN.{sub_ℕ}
use Rattle.std.proofs.lemmas.Int.{to_z_pos}
use Rattle.std.specs.Int.Signed.{mag, lt_z}

pos_sub : (a b : ℕ) → pos a -ℤ pos b ≡ sub_ℕ a b
pos_sub a zero = rw (leb-suc-zero a) (ap pos (omega arith))
pos_sub a (suc b) = refl

-- the difference is below zero just where a is below b; docs/MAP.md names it
pub sub_below : (a b : ℕ) → lt_z (sub_ℕ a b) (pos 0) ≡ ltb a b
sub_below a b = go (ltb a b)
  where
    go : (t : Bool) → lt_z (cond t (negsuc (b - suc a)) (pos (a - b))) (pos 0) ≡ t
    go true = refl
    go false = leb-suc-zero (a - b)

-- where it isn't below zero it is the unsigned difference; docs/MAP.md names it
pub sub_left : (a b : ℕ) → ltb a b ≡ false → sub_ℕ a b ≡ pos (a - b)
sub_left a b e = rw e

-- both below 2 ^ 62: the difference fits, and is read back from its bits
module _ (a b : ℕ) (ha : a < 2 ^ 62) (hb : b < 2 ^ 62) where
  abbrev bits : ℤ
  bits = to_z w64 a -ℤ to_z w64 b

  is_sub : bits ≡ sub_ℕ a b
  is_sub = ap₂ ◌-ℤ◌ (to_z_pos w64 a (omega arith)) (to_z_pos w64 b (omega arith)) ∙ pos_sub a b

  mag_sub : mag (sub_ℕ a b) < 2 ^ 63
  mag_sub = go (ltb a b)
    where
      go : (t : Bool) → mag (cond t (negsuc (b - suc a)) (pos (a - b))) < 2 ^ 63
      go true = omega arith
      go false = omega arith

  pub sub_fits : SFits w64 bits
  sub_fits = record { sfits = rw is_sub mag_sub }

  pub sub_read : to_z w64 (of_z w64 bits) ≡ sub_ℕ a b
  sub_read = to_z-of_z sub_fits ∙ is_sub

  -- the test `total < 0` is the unsigned test, and what is not below zero is the unsigned difference
  pub sub_test : lt_z (to_z w64 (of_z w64 bits)) (pos 0) ≡ ltb a b
  sub_test = ap (λ (z : ℤ). lt_z z (pos 0)) sub_read ∙ sub_below a b

  -- no proof cites this one, docs/PORT.md names it
  pub sub_pos : lt_z (to_z w64 (of_z w64 bits)) (pos 0) ≡ false → to_z w64 (of_z w64 bits) ≡ pos (a - b)
  sub_pos t = sub_read ∙ sub_left a b (sym sub_test ∙ t)
