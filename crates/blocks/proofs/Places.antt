-- The block's layout is in order and stays within the block; bytes that are not zero, and those that no field names.
-- Assumes nothing.
use Rattle.std.proofs.Common.{◌≡◌, ℕ, zero, suc, ◌+◌, ◌-◌, ◌≤◌, Bool, true, false, not, ◌||◌, cond, eqb, List, [], ◌∷◌, map, length, take, drop, get_or, sym, refl, ◌∙◌, arith, bit_or, length-drop}
use Rattle.std.proofs.Math.Bool.{or_assoc, or-false}
use Rattle.std.proofs.Math.Seq.{take-suc}
use Rattle.std.proofs.lemmas.Bool.{ne_eqb}
use Rattle.std.proofs.lemmas.List.{get_or-drop}
use Rattle.std.proofs.lemmas.List.Folds.{list_any-append}
use Rattle.std.proofs.lemmas.Nat.{le_or_l}
use Rattle.std.specs.Int.Bits.{or_zero_l}
use Rattle.std.specs.List.{fold}
use Rattle.numbers.specs.Lists.{any}
use Rattle.numbers.proofs.Tests.{or_from}
use Rattle.numbers.specs.Below.{any_below}
use Rattle.numbers.proofs.Below.{any_none}
use Rattle.cases.specs.Layout.{Field, ◌wide◌, layout, ordered, gaps}
use Rattle.blocks.specs.Block.{nonzero, unnamed_fault}

pub in_order : ordered 0 512 layout ≡ true
in_order = refl

-- some numbers' bits, taken together, are none where no number has one
some_bit : (a b : ℕ) → not (eqb (bit_or a b) 0) ≡ (not (eqb a 0) || not (eqb b 0))
some_bit zero b = rw (or_zero_l b)
some_bit (suc a) b = rw (ne_eqb (bit_or (suc a) b) 0 (λ e. omega (arith, e, le_or_l (suc a) b)), ne_eqb (suc a) 0 (λ e. omega arith))

any_bit : (bits : ℕ) (xs : List ℕ) → not (eqb (fold bit_or bits xs) 0) ≡ (not (eqb bits 0) || any (λ x. not (eqb x 0)) xs)
any_bit bits [] = sym (or-false (not (eqb bits 0)))
any_bit bits (x ∷ xs) = any_bit (bit_or bits x) xs ∙ rw (some_bit bits x) (or_assoc (not (eqb bits 0)) (not (eqb x 0)) (any (λ y. not (eqb y 0)) xs))

pub any_nonzero : (xs : List ℕ) → not (eqb (fold bit_or 0 xs) 0) ≡ any (λ x. not (eqb x 0)) xs
any_nonzero = any_bit 0

-- the bytes of a field's place, cut out, and whether one of them is not zero
part_any : (test : ℕ → Bool) (s : List ℕ) (p n : ℕ) → p + n ≤ length s → any test (take n (drop p s)) ≡ any_below n (λ i. test (get_or s (p + i) 0))
unfolding any_below
part_any test s p zero h = refl
part_any test s p (suc n) h =
    rw (take-suc (drop p s) n 0 (rw length-drop (omega arith)), list_any-append, part_any test s p n (omega arith), or-false, get_or-drop)

abbrev part_nonzero : List ℕ → Field → Bool
part_nonzero s f = any (λ x. not (eqb x 0)) (take f.width (drop f.offset s))

part_is : (s : List ℕ) (f : Field) → f.offset + f.width ≤ length s → part_nonzero s f ≡ nonzero s f
unfolding nonzero
part_is s f = part_any (λ x. not (eqb x 0)) s f.offset f.width

pub nonzero_between : (s : List ℕ) (p end n : ℕ) → end ≡ p + n → end ≤ length s → any (λ x. not (eqb x 0)) (take (end - p) (drop p s)) ≡ nonzero s (p wide n)
nonzero_between s p end n e h =
    let size : end - p ≡ n = omega arith in
    rw size (part_is s (p wide n) (omega arith))

-- where two fields stand side by side there is no byte between them
none_between : (s : List ℕ) (p : ℕ) → nonzero s (p wide 0) ≡ false
unfolding nonzero
none_between s p = sym (any_none _)

abbrev with_bytes : List Field → List Field
with_bytes [] = []
with_bytes (f ∷ fs) = cond (eqb f.width 0) (with_bytes fs) (f ∷ with_bytes fs)

-- the bytes that no field names are those of the gaps that have any, as the layout gives them, one test after the other
pub unnamed : (s : List ℕ) → or_from false (map (nonzero s) (with_bytes (gaps 0 512 layout))) ≡ unnamed_fault s
unfolding unnamed_fault
unnamed s = simp (none_between, or_assoc, or-false)
