-- Lines formed in a buffer with room for them.
-- Assumes nothing.
use Rattle.std.proofs.Common.{ℕ, ◌+◌, ◌-◌, ◌≤◌, List, [], ◌++◌, ◌≡◌, sym, ◌∙◌, arith, length, take, drop, le-ltb, Ok, IsOk}
use Rattle.std.specs.Prelude.{Result}
use Rattle.buffers.specs.Text.{Written}
use Rattle.buffers.proofs.Writing.{put_empty}
use Rattle.report.specs.Forming.{formed_as, buffer_with}
use Rattle.report.proofs.Forming.{formed_part}
use Rattle.refusals.specs.declared.Refusal.{Refusal}

pub nothing_written : (b : List ℕ) (at : ℕ) → at ≤ length b → Written b at [] b at
nothing_written b at h = record { bytes = sym (put_empty b at h); stop = omega arith; room = h }

-- a line's length is answered
pub line_formed : (size : ℕ) (line : List ℕ) → 256 ≤ size → formed_as size line ≡ Ok (length line)
unfolding formed_as
line_formed size line h = rw (le-ltb size 256 h)

pub line_answered : (size : ℕ) (line : List ℕ) {f : Result ℕ Refusal} → f ≡ formed_as size line → 256 ≤ size → IsOk f
line_answered size line e h = rw (e, line_formed size line h)

-- and it stands at the start
pub line_stands : (b line : List ℕ) → 256 ≤ length b → buffer_with b line ≡ line ++ drop (length line) b
unfolding buffer_with
line_stands b line h = rw (le-ltb (length b) 256 h)

-- the 256 bytes from an index on
abbrev pub lent : List ℕ → ℕ → List ℕ
lent b at = take (at + 256 - at) (drop at b)

-- a line formed in them has no more
pub line_fits : (b line : List ℕ) (at n : ℕ) {f : Result ℕ Refusal} {after : List ℕ} → f ≡ Ok n → f ≡ formed_as (length (lent b at)) line
    → after ≡ buffer_with (lent b at) line → length after ≡ length (lent b at) → at + 256 ≤ length b → n ≤ 256
line_fits b line at n is answer bytes kept room = (formed_part b at line (at + 256 - at) (omega arith) room (sym is ∙ answer) bytes kept).1

-- and is written there
pub line_written : {b line : List ℕ} {at n : ℕ} {f : Result ℕ Refusal} {after : List ℕ} → f ≡ Ok n → f ≡ formed_as (length (lent b at)) line
    → after ≡ buffer_with (lent b at) line → length after ≡ length (lent b at) → at + 256 ≤ length b
    → Written b at line (take at b ++ (after ++ drop (at + 256 - at) (drop at b))) (at + n)
line_written {b} {line} {at} {n} is answer bytes kept room = (formed_part b at line (at + 256 - at) (omega arith) room (sym is ∙ answer) bytes kept).0
