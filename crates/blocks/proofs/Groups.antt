-- Amounts that stand one after the other.
-- Assumes nothing.
use Rattle.std.proofs.Common.{◌≡◌, ℕ, zero, suc, ◌+◌, ◌-◌, ◌*◌, List, [], ◌∷◌, map, length, drop, add_assoc, arith}
use Rattle.buffers.specs.Bytes.{number_at}
use Rattle.cases.specs.Layout.{amount, amounts_of_line, amounts_of_divorce_debit, line_at, divorce_debit_at, place}
use Rattle.blocks.specs.Block.{field_of}

-- n amounts that stand one after the other from position p on
unfoldable pub amounts_from : ℕ → List ℕ → ℕ → List ℕ
amounts_from zero s p = []
amounts_from (suc n) s p = number_at 8 s p ∷ amounts_from n s (p + 8)

-- what stands from index i on are the amounts from there on
abbrev pub ReadFrom : List ℕ → ℕ → ℕ → List ℕ → Type 0
ReadFrom s at i out = drop i out ≡ amounts_from (length out - i) s (at + 8 * i)

-- so a list is its amounts where that holds from index 0 on; no proof cites it, docs/PORT.md names it
pub read_all : (s : List ℕ) (at : ℕ) (out : List ℕ) → ReadFrom s at 0 out → out ≡ amounts_from (length out) s at
read_all s at out r =
    let e : at + 8 * 0 ≡ at = omega arith in
    let n : length out - 0 ≡ length out = omega arith in
    rw (e, n) at r

-- the amounts of a line stand one after the other in the block, and so do those of its divorce debit; no proof cites these, docs/MAP.md
-- names them
pub line_amounts : (s : List ℕ) (i : ℕ) → amounts_from 8 s (line_at i + 8) ≡ map (λ a. field_of s (place (amount i a))) amounts_of_line
unfolding amounts_from
line_amounts s i = simp add_assoc

pub debit_amounts : (s : List ℕ) (i : ℕ) → amounts_from 3 s (divorce_debit_at i) ≡ map (λ a. field_of s (place (amount i a))) amounts_of_divorce_debit
unfolding amounts_from
debit_amounts s i = simp add_assoc
