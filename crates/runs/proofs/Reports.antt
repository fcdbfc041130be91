-- Chunk after chunk, a run reports what the whole case file is.
-- Assumes nothing.
use Rattle.std.proofs.Common.{ℕ, ◌+◌, ◌-◌, ◌*◌, ◌%◌, ◌≤◌, min, List, [], ◌++◌, append-nil, append_assoc, ⊎_elim, ◌⊎◌, ◌≡◌, refl, sym, ap, ◌∙◌, arith, length, length-append}
use Rattle.report.specs.Lines.{header, end_line}
use Rattle.runs.specs.declared.Counts.{Counts}
use Rattle.blocks.specs.Files.{block_count, blocks, all_blocks}
use Rattle.runs.specs.Run.{limit, lines, paid_in, blocks_read, report_of, left, wanted_after, counted}
use Rattle.runs.specs.Steps.{none, Reported}
use Rattle.blocks.proofs.Files.{length_blocks, blocks_append, blocks_front}
use Rattle.runs.proofs.Lines.{lines_append, paid_append, paid_few}
use Rattle.runs.proofs.Left.{left_sound}

pub reported_none : Reported [] none header
unfolding blocks lines paid_in
reported_none = record { whole = refl; few = omega arith; paid = refl; report = refl }

pub left_reported : {done : List ℕ} {t : Counts} {text : List ℕ} → Reported done t text → left t ≡ limit - t.blocks
left_reported {done} {t} {text} g = left_sound t (omega (arith, g.paid, paid_few (blocks t.blocks done), length_blocks t.blocks done))

-- the bytes done, and a chunk after them
module _ {done : List ℕ} {t : Counts} {text : List ℕ} (g : Reported done t text) (s : List ℕ) (few : length s ≤ wanted_after t) where
  before : List (List ℕ)
  before = blocks t.blocks done

  within : t.blocks + block_count (length s) ≤ limit
  within = omega (arith, g.few, left_reported g)

  both : blocks (t.blocks + block_count (length s)) (done ++ s) ≡ before ++ all_blocks s
  unfolding before
  both = blocks_append t.blocks (block_count (length s)) done s g.whole

  paid_both : t.paid + paid_in (all_blocks s) ≡ paid_in (before ++ all_blocks s)
  unfolding before
  paid_both = rw paid_append (ap (λ (p : ℕ). p + paid_in (all_blocks s)) g.paid)

  text_both : text ++ lines (t.blocks + 1) (all_blocks s) ≡ header ++ lines 1 (before ++ all_blocks s)
  unfolding before
  text_both =
      let place : 1 + length (blocks t.blocks done) ≡ t.blocks + 1 = omega (arith, length_blocks t.blocks done) in
      rw (g.report, append_assoc header, lines_append 1 (blocks t.blocks done) (all_blocks s), place)

  -- a chunk of whole blocks
  pub reported_more : length s % 512 ≡ 0 → Reported (done ++ s) (counted t (all_blocks s)) (text ++ lines (t.blocks + 1) (all_blocks s))
  reported_more w =
      let n : length (all_blocks s) ≡ block_count (length s) = length_blocks (block_count (length s)) s in
      record {
        whole = omega (arith, length-append done s, g.whole);
        few = omega (arith, within);
        paid = paid_both ∙ ap paid_in (sym both) ∙ rw n;
        report = text_both ∙ rw (n, both);
      }

  -- the last chunk: of the whole file, or of all that is read of it
  pub reported_whole : (rest : List ℕ) → (rest ≡ []) ⊎ (512 * limit ≤ length done + length s)
      → text ++ (lines (t.blocks + 1) (all_blocks s) ++ end_line (t.blocks + length (all_blocks s)) (t.paid + paid_in (all_blocks s))) ≡ report_of (done ++ (s ++ rest))
  unfolding report_of before
  reported_whole rest last =
      let file : List ℕ = done ++ (s ++ rest) in
      let m : ℕ = t.blocks + block_count (length s) in
      let wh = g.whole in
      let wi = within in
      let ld : length (done ++ s) ≡ length done + length s = length-append done s in
      let read : blocks (min (block_count (length file)) limit) file ≡ before ++ all_blocks s =
      ⊎_elim
      (λ (e : rest ≡ []).
      let ef : file ≡ done ++ s = rw (e, append-nil) in
      let c : min (block_count (length (done ++ s))) limit ≡ m = omega arith in
      rw (ef, c) both)
      (λ (h : 512 * limit ≤ length done + length s).
      let ef : file ≡ (done ++ s) ++ rest = sym (append_assoc done s rest) in
      let lf : length ((done ++ s) ++ rest) ≡ length (done ++ s) + length rest = length-append (done ++ s) rest in
      let c : min (block_count (length ((done ++ s) ++ rest))) limit ≡ m = omega arith in
      rw (ef, c) (blocks_front m (done ++ s) rest (omega arith) ∙ both))
      last in
      let n : length (before ++ all_blocks s) ≡ t.blocks + length (all_blocks s) = rw (length-append, length_blocks t.blocks done) in
      sym (append_assoc text (lines (t.blocks + 1) (all_blocks s)) (end_line (t.blocks + length (all_blocks s)) (t.paid + paid_in (all_blocks s))))
      ∙ rw (text_both, read, n, paid_both) (append_assoc header (lines 1 (before ++ all_blocks s)) (end_line (t.blocks + length (all_blocks s)) (paid_in (before ++ all_blocks s))))

-- the report of a file goes on after what is reported of its first bytes
pub reported_start : {done text : List ℕ} {t : Counts} (rest : List ℕ) → Reported done t text → (more : List ℕ) × (report_of (done ++ rest) ≡ text ++ more)
unfolding report_of
reported_start {done} {text} {t} rest g =
    let file : List ℕ = done ++ rest in
    let n = min (block_count (length file)) limit in
    let m = n - t.blocks in
    let some : n ≡ t.blocks + m = omega (arith, length-append done rest, g.whole, g.few) in
    let read : blocks_read file ≡ blocks t.blocks done ++ blocks m rest = ap (λ (j : ℕ). blocks j file) some ∙ blocks_append t.blocks m done rest g.whole in
    let first = lines 1 (blocks t.blocks done) in
    let later = lines (1 + length (blocks t.blocks done)) (blocks m rest) in
    let end = end_line (length (blocks_read file)) (paid_in (blocks_read file)) in (
      later ++ end,
      ap (λ l. header ++ lines 1 l ++ end) read ∙ ap (λ l. header ++ l ++ end) (lines_append 1 (blocks t.blocks done) (blocks m rest))
          ∙ ap (λ l. l ++ end) (sym (append_assoc header first later)) ∙ append_assoc (header ++ first) later end
          ∙ ap (λ l. l ++ (later ++ end)) (sym g.report),
    )
