-- How long names and numbers are, and that no number is 0, by one test over all refusals; a name with spaces after it.
-- Assumes nothing.
use Rattle.std.proofs.Common.{ℕ, ◌-◌, ◌≤◌, ◌<◌, ◌≡◌, false, not, refl, arith, eqb, leb, ltb, List, ◌++◌, length, take, drop, replicate, length-append, leb-true, ltb-true}
use Rattle.std.proofs.Math.Nat.{sub-zero}
use Rattle.std.proofs.Math.Seq.{take-append_seam}
use Rattle.std.proofs.lemmas.Bool.{not-true}
use Rattle.refusals.specs.Refusals.{number_of, name_of}
use Rattle.refusals.specs.declared.Refusal.{Refusal}
use Rattle.refusals.proofs.Every.{each}

-- a name has at most sixteen bytes, and a number at most two digits
pub name_short : (r : Refusal) → length (name_of r) ≤ 16
name_short r = leb-true _ _ (each (λ r. leb (length (name_of r)) 16) refl r)

pub number_short : (r : Refusal) → number_of r < 100
number_short r = ltb-true _ _ (each (λ r. ltb (number_of r) 100) refl r)

-- 0 is no refusal's number: in an outcome's numbers it stands for a payment, in a verdict's for none
pub number_not_zero : (r : Refusal) → 0 < number_of r
number_not_zero r = ltb-true _ _ (each (λ r. ltb 0 (number_of r)) refl r)

-- so the test whether a verdict's number is 0, which says that none applies, fails on it
pub numbered : (r : Refusal) → eqb (number_of r) 0 ≡ false
numbered r = not-true _ (each (λ r. not (eqb (number_of r) 0)) refl r)

-- A name in a field of sixteen bytes, spaces after it. No proof of a function cites what follows; docs/CHANGES.md names `in_sixteen` and
-- `Labelled`, docs/PORT.md `within` and `its_name`.
abbrev pub in_sixteen : List ℕ → List ℕ
in_sixteen text = text ++ replicate (16 - length text) 32

-- a refusal's number, its name in sixteen bytes, and the name's length
pub record Labelled (r : Refusal) (n : ℕ) (bytes : List ℕ) (end : ℕ) : Type 0 where
  pub number : n ≡ number_of r
  pub name : bytes ≡ in_sixteen (name_of r)
  pub long : end ≡ length (name_of r)

-- a label of a refusal is that of any refusal equal to it
pub labelled : {r k : Refusal} → r ≡ k → Labelled r (number_of k) (in_sixteen (name_of k)) (length (name_of k))
labelled e = record { number = rw e; name = rw e; long = rw e }

-- the name is the first of those bytes
module _ (r : Refusal) {m : ℕ} {bytes : List ℕ} {n : ℕ} (held : Labelled r m bytes n) where
  pub within : n ≤ length bytes
  within = rw (held.name, held.long) (simp length-append (omega arith))

  pub its_name : take (n - 0) (drop 0 bytes) ≡ name_of r
  its_name = rw (held.name, held.long, sub-zero (length (name_of r))) (take-append_seam (name_of r) _)
