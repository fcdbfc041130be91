-- Forming a line in a lent buffer, and in a part of one.
-- Assumes nothing.
use Rattle.std.proofs.Common.{ℕ, ◌+◌, ◌-◌, ◌≤◌, false, Result, Ok, List, [], ◌∷◌, ◌++◌, ◌≡◌, ap, ◌∙◌, arith, ltb, length, take, drop, length-append, length-take, length-drop, le-ltb, ◌<◌, refl, lt-ltb, Err}
use Rattle.buffers.specs.Text.{Written, WrittenIfRoom}
use Rattle.buffers.proofs.Writing.{from_new, from_start, in_part}
use Rattle.refusals.specs.declared.Refusal.{Refusal}
use Rattle.refusals.specs.declared.Refusal.TheVariants.{Buffer}
use Rattle.report.specs.Forming.{formed_as, buffer_with, formed_numbers}

-- what forming a line promises
abbrev pub Promise : List ℕ → List ℕ → List ℕ → Result ℕ Refusal → Type 0
Promise before line after r =
    (r ≡ formed_as (length before) line) ×
    ((formed_numbers r ≡ formed_numbers (formed_as (length before) line)) ×
    (after ≡ buffer_with before line))

-- with too few bytes lent; no proof cites this law or the next, docs/MAP.md names them
pub refused : (b line : List ℕ) → length b < 256 → Promise b line b (Err Buffer)
unfolding formed_as buffer_with
refused b line h = rw (lt-ltb (length b) 256 h) (refl, (refl, refl))

-- with enough of them, and the line written at the start
pub formed : {b line a : List ℕ} {e : ℕ} → 256 ≤ length b → Written b 0 line a e → Promise b line a (Ok e)
unfolding formed_as buffer_with
formed {b} {line} {a} {e} h w =
    let p = from_start w in
    rw (le-ltb (length b) 256 h) (ap Ok p.0, (ap (λ (n : ℕ). 0 ∷ n ∷ []) p.0, p.1))

-- and a line of at most 256 bytes, written from the start on if there is room: m is the buffer before that
pub formed_if_room : {b m line a : List ℕ} {p e n : ℕ} → 256 ≤ length b → m ≡ b → p ≡ 0 → length line ≤ 256 → WrittenIfRoom m p line a e → n ≡ e
    → Promise b line a (Ok n)
unfolding formed_as buffer_with
formed_if_room {b} {m} {line} {a} {p} {e} {n} h same start short w stop =
    let q = from_new same start (omega arith) w in
    let long : n ≡ length line = stop ∙ q.0 in
    rw (le-ltb (length b) 256 h) (ap Ok long, (ap (λ (n : ℕ). 0 ∷ n ∷ []) long, q.1))

-- a line formed in the 256 bytes from an index on
module _ (b : List ℕ) (at : ℕ) (line : List ℕ) (k : ℕ) (size : k ≡ 256) (room : at + 256 ≤ length b) where
  enough : ltb (length (take k (drop at b))) 256 ≡ false
  enough = le-ltb (length (take k (drop at b))) 256 (simp (length-take, length-drop) (omega arith))

  -- is written there
  pub formed_part : {n : ℕ} {after : List ℕ} → Ok n ≡ formed_as (length (take k (drop at b))) line
      → after ≡ buffer_with (take k (drop at b)) line → length after ≡ length (take k (drop at b))
      → Written b at line (take at b ++ (after ++ drop k (drop at b))) (at + n) × (n ≤ 256)
  unfolding formed_as buffer_with
  formed_part {n} {after} answer bytes kept =
      let part : List ℕ = take k (drop at b) in
      let lp : length part ≡ k = simp (length-take, length-drop) (omega arith) in
      let r : Ok n ≡ Ok (length line) = rw enough at answer in
      let en : n ≡ length line = cc in
      let y : after ≡ line ++ drop (length line) part = rw enough at bytes in
      let ly : length after ≡ length line + (length part - length line) = ap length y ∙ simp (length-append, length-drop) in
      let short : length line ≤ k = omega arith in
      (rw (y, en) (in_part (omega arith) short), omega arith)
