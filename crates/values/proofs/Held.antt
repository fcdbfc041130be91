-- Bytes held at the start of a buffer while others are read after them.
-- Assumes nothing.
use Rattle.std.proofs.Common.{ℕ, ◌≤◌, List, ◌++◌, ◌≡◌, ◌∙◌, arith, length, take, length-take-le, take-take}
use Rattle.std.proofs.lemmas.List.{take-append-le}

-- the part of a block that was held stands before what is read; no proof cites it, docs/PORT.md names it
pub held_kept : (held n : ℕ) (b₀ b after : List ℕ) → held ≤ n → n ≤ length b → take held b ≡ take held b₀ → take held (take n b ++ after) ≡ take held b₀
held_kept held n b₀ b after few room same =
    let l = length-take-le n b room in
    take-append-le held (take n b) after (omega arith) ∙ take-take held n b few ∙ same
