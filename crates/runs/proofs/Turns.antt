-- The turns of the loop over the blocks of a chunk.
-- Assumes nothing.
use Rattle.std.proofs.Common.{ℕ, suc, ◌+◌, ◌*◌, ◌≤◌, ◌<◌, min, List, [], ◌∷◌, ◌++◌, append-nil, append_assoc, ◌≡◌, refl, sym, ap, ◌∙◌, subst, arith, length, take, drop, length-append, take_at, drop_at, take_all, ⊎_elim}
use Rattle.std.proofs.lemmas.List.{nil_from_length, drop_all}
use Rattle.buffers.specs.Text.{Written}
use Rattle.buffers.proofs.Writing.{then_written}
use Rattle.valuing.specs.Block.{block_answer}
use Rattle.answers.specs.declared.Answer.{Answer}
use Rattle.report.specs.Lines.{line_of}
use Rattle.runs.specs.declared.Counts.{Counts}
use Rattle.blocks.specs.Files.{blocks, block_count, all_blocks}
use Rattle.runs.specs.Run.{lines, paid_one, paid_in, counted}
use Rattle.std.proofs.lemmas.Bool.{cases_lt}
use Rattle.blocks.proofs.Files.{length_blocks}
use Rattle.runs.proofs.Forming.{nothing_written}
use Rattle.runs.proofs.Lines.{paid_few}

-- the pieces into which `chunks(512)` cuts bytes are their blocks: the first of them, and the blocks of the rest
next_block : (bytes block rest : List ℕ) → bytes ≡ block ++ rest → length block ≡ min 512 (length bytes) → 0 < length bytes
    → all_blocks bytes ≡ block ∷ all_blocks rest
unfolding blocks
next_block bytes block rest is size some =
    let long : length bytes ≡ length block + length rest = ap length is ∙ length-append block rest in
    let count : block_count (length bytes) ≡ suc (block_count (length rest)) = omega arith in
    let parts : (take 512 bytes ≡ block) × (drop 512 bytes ≡ rest) =
    ⊎_elim
    (λ (h : length bytes < 512).
    let none : rest ≡ [] = nil_from_length rest (omega arith) in
    (take_all 512 bytes (omega arith) ∙ is ∙ ap (λ l. block ++ l) none ∙ append-nil block, drop_all 512 bytes (omega arith) ∙ sym none))
    (λ (h : 512 ≤ length bytes).
    let n : length block ≡ 512 = omega arith in
    (ap (take 512) is ∙ take_at block rest 512 n, ap (drop 512) is ∙ drop_at block rest 512 n))
    (cases_lt (length bytes) 512) in
    ap (λ (n : ℕ). blocks n bytes) count ∙ ap (λ l. l ∷ blocks (block_count (length rest)) (drop 512 bytes)) parts.0
    ∙ ap (λ l. block ∷ blocks (block_count (length rest)) l) parts.1

count_all : (bytes : List ℕ) → length (all_blocks bytes) ≡ block_count (length bytes)
count_all bytes = length_blocks (block_count (length bytes)) bytes

-- where the blocks of the rest are still to come: the counts, and the lines that stand in the buffer
pub record Going (input before : List ℕ) (t : Counts) (rest after : List ℕ) (blocks' paid used : ℕ) : Type 0 where
  pub done : List ℕ
  pub written : Written before 0 done after used
  pub text : done ++ lines (blocks' + 1) (all_blocks rest) ≡ lines (t.blocks + 1) (all_blocks input)
  pub short : used + 256 * block_count (length rest) ≤ 256 * block_count (length input)
  pub count : blocks' + block_count (length rest) ≡ t.blocks + block_count (length input)
  pub paid_so_far : paid + paid_in (all_blocks rest) ≡ t.paid + paid_in (all_blocks input)

pub at_start : (input before rest : List ℕ) (t : Counts) → rest ≡ input → Going input before t rest before t.blocks t.paid 0
at_start input before rest t all = subst (λ (l : List ℕ). Going input before t l before t.blocks t.paid 0) (sym all) (record {
  done = [];
  written = nothing_written before 0 (omega arith);
  text = refl;
  short = omega arith;
  count = refl;
  paid_so_far = refl;
})

module _ {input before rest after : List ℕ} {t : Counts} {blocks' paid used : ℕ} (g : Going input before t rest after blocks' paid used) where
  -- no more is paid than read
  pub paid_within : paid ≤ t.paid + block_count (length input)
  paid_within = omega (arith, g.paid_so_far, paid_few (all_blocks input), count_all input)

  pub turn : (block later : List ℕ) → rest ≡ block ++ later → length block ≡ min 512 (length rest) → 0 < length rest
      → (a : Answer) → a ≡ block_answer block → (one : ℕ) → one ≡ paid_one a.outcome
      → (out : List ℕ) (end : ℕ) → Written after used (line_of (blocks' + 1) a) out end → end ≤ used + 256
      → Going input before t later out (blocks' + 1) (paid + one) end
  unfolding lines paid_in
  turn block later is size some a ea one eo out end w small =
      let long : length rest ≡ length block + length later = ap length is ∙ length-append block later in
      let next : all_blocks rest ≡ block ∷ all_blocks later = next_block rest block later is size some in
      let its_line : line_of (blocks' + 1) a ≡ line_of (blocks' + 1) (block_answer block) = ap (line_of (blocks' + 1)) ea in
      let its_count : one ≡ paid_one (block_answer block).outcome = eo ∙ ap (λ (b : Answer). paid_one b.outcome) ea in
      let paid_next : paid_in (all_blocks rest) ≡ paid_one (block_answer block).outcome + paid_in (all_blocks later) = ap paid_in next in
      record {
        done = g.done ++ line_of (blocks' + 1) a;
        written = then_written g.written w;
        text = append_assoc g.done (line_of (blocks' + 1) a) (lines (blocks' + 1 + 1) (all_blocks later))
            ∙ ap (λ l. g.done ++ (l ++ lines (blocks' + 1 + 1) (all_blocks later))) its_line ∙ ap (λ l. g.done ++ lines (blocks' + 1) l) (sym next) ∙ g.text;
        short = omega (arith, g.short);
        count = omega (arith, g.count);
        paid_so_far = omega (arith, g.paid_so_far);
      }

  -- when the last block is done
  pub at_end : length rest ≡ 0 → length input ≤ 65536
      → (◌≡◌ {A = Counts} (record { blocks = blocks'; paid = paid }) (counted t (all_blocks input))) ×
      (Written before 0 (lines (t.blocks + 1) (all_blocks input)) after used × (used + 256 ≤ 33024))
  unfolding lines paid_in blocks
  at_end none small =
      let no_block : all_blocks rest ≡ [] = ap (λ (n : ℕ). blocks (block_count n) rest) none in
      let count : blocks' ≡ t.blocks + length (all_blocks input) = omega (arith, g.count, count_all input) in
      let none_paid : paid_in (all_blocks rest) ≡ 0 = ap paid_in no_block in
      let some : paid ≡ t.paid + paid_in (all_blocks input) = omega (arith, g.paid_so_far) in
      let text : g.done ≡ lines (t.blocks + 1) (all_blocks input) = sym (append-nil g.done) ∙ sym (ap (λ l. g.done ++ lines (blocks' + 1) l) no_block) ∙ g.text in
      (λ i. record { blocks = count i; paid = some i }, (subst (λ (l : List ℕ). Written before 0 l after used) text g.written, omega (arith, g.short)))
