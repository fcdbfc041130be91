-- The bits of some numbers taken together: of one number more before the others; and where they make no number above the limit,
-- none of the numbers is above it.
-- Assumes nothing.
use Rattle.std.proofs.Common.{ℕ, suc, ◌-◌, ◌≤◌, ◌<◌, false, List, [], ◌∷◌, map, ◌≡◌, refl, sym, ap, ◌∙◌, arith, bit_or, length, drop, get_or, drop-cons, le-ltb}
use Rattle.std.proofs.Math.Seq.{drop-length}
use Rattle.std.proofs.lemmas.Nat.{le_or_l, le_or_r}
use Rattle.std.proofs.lemmas.Nat.Bits.{bit_at_or, same_from_bits}
use Rattle.std.specs.List.{fold}
use Rattle.std.specs.Int.Bits.{or_zero_r}
use Rattle.numbers.specs.Lists.{any}
use Rattle.cases.specs.Bits.{all_bits}
use Rattle.cases.specs.Layout.{amounts}
use Rattle.cases.specs.Entries.{amount_in}
use Rattle.cases.specs.Form.{too_large}
use Rattle.cases.specs.declared.Line.{Line}

or_assoc : (a b c : ℕ) → bit_or (bit_or a b) c ≡ bit_or a (bit_or b c)
or_assoc a b c = same_from_bits _ _ (λ i. grind (arith, bit_at_or))

-- the bits of a number and of others
with_bits : (a : ℕ) (xs : List ℕ) → bit_or a (all_bits xs) ≡ fold bit_or a xs
with_bits a [] = or_zero_r a
with_bits a (x ∷ xs) = ap (bit_or a) (sym (with_bits x xs)) ∙ sym (or_assoc a x (all_bits xs)) ∙ with_bits (bit_or a x) xs

-- the bits of a list from its end to its start: of none, and of one member more; no proof cites these, docs/PORT.md names them
pub bits_past : (xs : List ℕ) → 0 ≡ all_bits (drop (length xs) xs)
bits_past xs = rw (drop-length xs)

pub bits_back : (xs : List ℕ) (i : ℕ) → 0 < i → i ≤ length xs → bit_or (get_or xs (i - 1) 0) (all_bits (drop i xs)) ≡ all_bits (drop (i - 1) xs)
bits_back xs i p h =
    let e : i ≡ suc (i - 1) = omega arith in
    with_bits (get_or xs (i - 1) 0) (drop i xs)
    ∙ ap (λ (n : ℕ). fold bit_or (get_or xs (i - 1) 0) (drop n xs)) e
    ∙ sym (ap all_bits (drop-cons xs (i - 1) 0 (omega arith)))

-- bits that are set stay set
kept : (a : ℕ) (xs : List ℕ) → a ≤ fold bit_or a xs
kept a [] = omega arith
kept a (x ∷ xs) = omega (arith, le_or_l a x, kept (bit_or a x) xs)

none_above : (a : ℕ) (xs : List ℕ) → fold bit_or a xs ≤ 1000000000 → any too_large xs ≡ false
none_above a [] h = refl
none_above a (x ∷ xs) h =
    rw (le-ltb 1000000000 x (omega (arith, le_or_r a x, kept (bit_or a x) xs))) (none_above (bit_or a x) xs h)

pub none_too_large : (xs : List ℕ) → all_bits xs ≤ 1000000000 → any too_large xs ≡ false
none_too_large = none_above 0

-- the same of the amounts of a line, whose bits are taken together to n; no proof cites it, docs/PORT.md names it
pub low_bits : (l : Line) (n : ℕ) (xs : List ℕ) → xs ≡ map (λ a. amount_in a l) amounts → n ≡ all_bits xs → n ≤ 1000000000 → any (λ a. too_large (amount_in a l)) amounts ≡ false
low_bits l n xs e f h = none_too_large (map (λ a. amount_in a l) amounts) (rw (f, e) at h)
