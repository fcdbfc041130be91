-- The part of a block that waits for its rest: moved to the start of a buffer, and no byte lost.
-- Assumes nothing.
use Rattle.std.proofs.Common.{ℕ, ◌+◌, ◌-◌, ◌%◌, ◌<◌, ◌≤◌, min, List, ◌++◌, ◌≡◌, refl, sym, ap, ◌∙◌, arith, length, take, drop, length-take, length-drop, take_at, take_all, take-take, take-append-drop, append_assoc, zero-add, ⊎_elim}
use Rattle.std.specs.List.{copy_within}
use Rattle.std.proofs.Math.Seq.{drop-append-le}
use Rattle.std.proofs.lemmas.Bool.{cases_lt}
use Rattle.runs.specs.declared.Counts.{Counts}
use Rattle.runs.specs.declared.Source.{Source}
use Rattle.runs.specs.declared.Source.TheVariants.{Open, Ended, Failed}
use Rattle.runs.specs.Run.{wanted_after}
use Rattle.runs.specs.Steps.{bytes_taken, came, chunk, waiting_part}

pub part_moved : (bytes after : List ℕ) (at : ℕ) → after ≡ copy_within bytes at (length bytes) 0 → after ≡ drop at bytes ++ drop (length bytes - at) bytes
part_moved bytes after at is =
    let n : ℕ = length bytes - at in
    is
    ∙ ap (λ l. l ++ drop (0 + n) bytes) (take_all n (drop at bytes) (simp length-drop (omega arith))) ∙ ap (λ (m : ℕ). drop at bytes ++ drop m bytes) (zero-add n)

-- no more is taken than came, and what is not taken is less than a block
pub taken_few : (source : Source) (n : ℕ) → (bytes_taken source n ≤ n) × (n < bytes_taken source n + 512)
taken_few Open n = (omega arith, omega arith)
taken_few Ended n = (omega arith, omega arith)
taken_few Failed n = (omega arith, omega arith)

-- where the file has not ended, the part that waits is as long as what is left of the bytes that came after whole blocks; no proof cites
-- it, docs/PORT.md names it
pub length_last : (t : Counts) (input : List ℕ) (source : Source) → (source ≡ Ended → ⊥)
    → length (waiting_part t input source) ≡ length (came t input) % 512
unfolding waiting_part
length_last t input Open more = simp (length-take, length-drop) (omega arith)
length_last t input Ended more = absurd (more refl)
length_last t input Failed more = simp (length-take, length-drop) (omega arith)

-- as many bytes as came
pub take_came : (t : Counts) (input : List ℕ) (end : ℕ) → end ≡ min (length input) (wanted_after t) → take end input ≡ came t input
take_came t input end e =
    ⊎_elim
    (λ (h : wanted_after t < length input). let n : end ≡ wanted_after t = omega arith in rw n)
    (λ (h : length input ≤ wanted_after t). let n : end ≡ length input = omega arith in rw n (take_all (length input) input (omega arith) ∙ sym (take_all (wanted_after t) input h)))
    (cases_lt (wanted_after t) (length input))

-- the bytes after the part are as they were, also past those among which it was
pub part_kept : (input part : List ℕ) (end held : ℕ) → held ≤ end → end ≤ length input
    → part ++ drop held (take end input) ++ drop end input ≡ part ++ drop held input
part_kept input part end held low room =
    let long : held ≤ length (take end input) = omega (arith, length-take end input) in
    append_assoc part (drop held (take end input)) (drop end input)
    ∙ ap (λ l. part ++ l) (sym (drop-append-le held (take end input) (drop end input) long) ∙ ap (drop held) (take-append-drop end input))

-- what a step takes, and the part that waits, are together all the bytes that came
all_kept : (t : Counts) (input : List ℕ) (source : Source) → chunk t input source ++ waiting_part t input source ≡ came t input
unfolding chunk waiting_part
all_kept t input source =
    let k : ℕ = bytes_taken source (length (came t input)) in
    let low : k ≤ wanted_after t = omega (arith, length-take (wanted_after t) input, taken_few source (length (came t input))) in
    ap (λ l. l ++ drop k (came t input)) (sym (take-take k (wanted_after t) input low)) ∙ take-append-drop k (came t input)

-- so they are where the part that waits stands at the start of the buffer: none is lost or counted twice
pub none_lost : (t : Counts) (input : List ℕ) (source : Source) {held : ℕ} {after : List ℕ}
    → held ≡ length (waiting_part t input source) → after ≡ waiting_part t input source ++ drop held input
    → chunk t input source ++ take held after ≡ came t input
none_lost t input source {held} {after} e a =
    let front : take held after ≡ waiting_part t input source = rw a (take_at (waiting_part t input source) _ held (sym e)) in
    rw front (all_kept t input source)
