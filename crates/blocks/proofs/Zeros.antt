-- A line whose bytes, with those of its divorce debit, are all zero is a line of zeros.
-- Assumes nothing.
use Rattle.std.proofs.Common.{◌≡◌, ℕ, suc, ◌+◌, ◌-◌, ◌≤◌, false, not, ◌||◌, eqb, List, length, get_or, refl, ap, ◌∙◌, ap₂, arith, eqb-true}
use Rattle.std.proofs.Math.Path.{fun_ext}
use Rattle.std.proofs.lemmas.Bool.{not-false}
use Rattle.numbers.proofs.Below.{any_false}
use Rattle.numbers.proofs.Tests.{or_false}
use Rattle.buffers.specs.Bytes.{number_at}
use Rattle.buffers.proofs.Bytes.{number_zero}
use Rattle.cases.specs.Layout as layout
use Rattle.cases.specs.Layout.{Amount, ◌wide◌, line_at, divorce_debit_at, amount, place}
use Rattle.cases.specs.Entries.{date_of, line_with, line_by}
use Rattle.cases.specs.Form.{line_filled}
use Rattle.blocks.specs.Block.{field_of, nonzero}

-- a number that stands within bytes of zero is 0
zero_within :
    (s : List ℕ) (p n : ℕ) → p + n ≤ length s → nonzero s (p wide n) ≡ false →
    (q width : ℕ) → p ≤ q → q + width ≤ p + n → number_at width s q ≡ 0
unfolding nonzero
zero_within s p n l none q width f h = number_zero width s q (omega arith) (λ k b. byte (q - p + k) (omega arith) (q + k) (omega arith))
  where
    byte : (j : ℕ) → suc j ≤ n → (r : ℕ) → r ≡ p + j → get_or s r 0 ≡ 0
    byte j b r e = rw e (eqb-true (get_or s (p + j) 0) 0 (not-false (eqb (get_or s (p + j) 0) 0) (any_false n (λ i. not (eqb (get_or s (p + i) 0) 0)) none j b)))

module _
    (s : List ℕ) (i : ℕ) (few : i ≤ 3) (long : 512 ≤ length s)
    (none : (nonzero s (line_at i wide 72) || nonzero s (divorce_debit_at i wide 24)) ≡ false)
  where
    both : (nonzero s (line_at i wide 72) ≡ false) × (nonzero s (divorce_debit_at i wide 24) ≡ false)
    both = or_false (nonzero s (line_at i wide 72)) (nonzero s (divorce_debit_at i wide 24)) none

    in_line : (q width : ℕ) → line_at i ≤ q → q + width ≤ line_at i + 72 → number_at width s q ≡ 0
    in_line = zero_within s (line_at i) 72 (omega arith) both.0

    in_debit : (q width : ℕ) → divorce_debit_at i ≤ q → q + width ≤ divorce_debit_at i + 24 → number_at width s q ≡ 0
    in_debit = zero_within s (divorce_debit_at i) 24 (omega arith) both.1

    zero_amount : (a : Amount) → field_of s (place (amount i a)) ≡ 0
    zero_amount layout.pension = in_line _ 8 (omega arith) (omega arith)
    zero_amount layout.additional = in_line _ 8 (omega arith) (omega arith)
    zero_amount layout.survivor = in_line _ 8 (omega arith) (omega arith)
    zero_amount layout.dependant = in_line _ 8 (omega arith) (omega arith)
    zero_amount layout.lump = in_line _ 8 (omega arith) (omega arith)
    zero_amount layout.modification = in_line _ 8 (omega arith) (omega arith)
    zero_amount layout.scheme_pays = in_line _ 8 (omega arith) (omega arith)
    zero_amount layout.scheme_pays_lump = in_line _ 8 (omega arith) (omega arith)
    zero_amount layout.debit_pension = in_debit _ 8 (omega arith) (omega arith)
    zero_amount layout.debit_survivor = in_debit _ 8 (omega arith) (omega arith)
    zero_amount layout.debit_lump = in_debit _ 8 (omega arith) (omega arith)

    pub zero_line : line_filled (line_by (λ e. field_of s (place e)) i) ≡ false
    unfolding line_filled line_by
    zero_line = ap line_filled (ap₂ line_with (ap date_of (in_line (line_at i) 4 (omega arith) (omega arith))) (fun_ext zero_amount)) ∙ refl
