-- A step of a run: what its parts make, and what it adds to the report of a file.
-- Assumes nothing.
use Rattle.std.proofs.Common.{ℕ, ◌+◌, ◌-◌, ◌*◌, ◌%◌, ◌≤◌, ◌<◌, min, Bool, true, false, cond, List, [], ◌++◌, append-nil, ◌⊎◌, inl, inr, ◌≡◌, refl, sym, ap, ◌∙◌, arith, length, take, length-take, take_at, ne_eqb}
use Rattle.buffers.specs.Text.{Written}
use Rattle.buffers.proofs.Writing.{then_written}
use Rattle.report.specs.Lines.{end_line}
use Rattle.runs.specs.declared.Counts.{Counts}
use Rattle.runs.specs.declared.Progress.{Progress}
use Rattle.runs.specs.declared.Source.{Source}
use Rattle.runs.specs.declared.Source.TheVariants.{Open, Ended, Failed}
use Rattle.blocks.specs.Files.{block_count, all_blocks}
use Rattle.runs.specs.Run.{limit, lines, left, wanted_after, counted}
use Rattle.runs.specs.Steps.{bytes_taken, wanted_unless, ends, came, chunk, counts_after, wanted_next, step_text, Reported, Continues}
use Rattle.blocks.proofs.Files.{length_blocks}
use Rattle.runs.proofs.Left.{left_after}
use Rattle.runs.proofs.Reports.{left_reported, reported_more, reported_whole}

-- what was written at the start of a buffer
pub front : {n : ℕ} {out : List ℕ} (text rest : List ℕ) → n ≡ length text → out ≡ text ++ rest → take n out ≡ text
front {n} {out} text rest e b = rw b (take_at text rest n (sym e))

-- how a step goes: a read failed, the file has ended, or more can come
data Way (t : Counts) (input : List ℕ) (source : Source) : Type 0 where
  broken : source ≡ Failed → length (chunk t input source) % 512 ≡ 0 → wanted_next t input source ≡ 0 → Way t input source
  ended : source ≡ Ended → wanted_next t input source ≡ 0 → Way t input source
  more : source ≡ Open → length (chunk t input source) ≡ length (came t input) - length (came t input) % 512
      → wanted_next t input source ≡ wanted_after (counts_after t input source) → Way t input source

chunk_length : (t : Counts) (input : List ℕ) (source : Source) → length (chunk t input source) ≡ min (bytes_taken source (length (came t input))) (length input)
unfolding chunk
chunk_length t input source = length-take (bytes_taken source (length (came t input))) input

pub came_length : (t : Counts) (input : List ℕ) → length (came t input) ≡ min (wanted_after t) (length input)
came_length t input = length-take (wanted_after t) input

way : (t : Counts) (input : List ℕ) (source : Source) → Way t input source
way t input Open = more refl (omega (arith, chunk_length t input Open, came_length t input)) refl
way t input Ended = ended refl refl
way t input Failed = broken refl (omega (arith, chunk_length t input Failed, came_length t input)) refl

few : (t : Counts) (input : List ℕ) (source : Source) → length (chunk t input source) ≤ wanted_after t
few t input Open = omega (arith, chunk_length t input Open, came_length t input)
few t input Ended = omega (arith, chunk_length t input Ended, came_length t input)
few t input Failed = omega (arith, chunk_length t input Failed, came_length t input)

order : Source → ℕ
order Open = 0
order Ended = 1
order Failed = 2

-- whether the end line stands
ends_at : (source : Source) (w : ℕ) → w ≡ 0 → (source ≡ Failed → ⊥) → ends source w ≡ true
ends_at Open w z n = rw z
ends_at Ended w z n = refl
ends_at Failed w z n = absurd (n refl)

ends_not : (source : Source) (w : ℕ) → (source ≡ Failed) ⊎ (0 < w) → (source ≡ Ended → w ≡ 0) → ends source w ≡ false
unfolding order
ends_not Open w (inl b) e = let z = ap order b in absurd (omega arith)
ends_not Open w (inr m) e = ne_eqb w 0 (λ z. omega arith)
ends_not Ended w (inl b) e = let z = ap order b in absurd (omega arith)
ends_not Ended w (inr m) e = let z = e refl in absurd (omega arith)
ends_not Failed w h e = refl

module _ (t : Counts) (input : List ℕ) (source : Source) where
  abbrev s : List ℕ
  s = chunk t input source

  abbrev after : Counts
  after = counts_after t input source

  abbrev w : ℕ
  w = wanted_next t input source

  -- the parts of a step, one after the other
  pub step_made : {n m used end : ℕ} {counts : Counts} {last : Bool} {out₀ out₁ out₂ : List ℕ} → n ≡ bytes_taken source (length (came t input))
      → counts ≡ counted t (all_blocks (take n input)) → m ≡ wanted_unless source counts → last ≡ ends source m
      → Written out₀ 0 (lines (t.blocks + 1) (all_blocks (take n input))) out₁ used
      → Written out₁ used (cond last (end_line counts.blocks counts.paid) []) out₂ end
      → (counts ≡ after) × ((m ≡ w) × Written out₀ 0 (step_text t input source) out₂ end)
  unfolding chunk step_text
  step_made {n} {m} {used} {end} {counts} {last} {out₀} {out₁} {out₂} en ec em el l e =
      let a : counts ≡ after = ec ∙ ap (λ (k : ℕ). counted t (all_blocks (take k input))) en in
      let b : m ≡ w = em ∙ ap (wanted_unless source) a in
      (a, (b, then_written (rw en at l) (rw (el, a, b) at e)))

  text_by : {last : Bool} → ends source w ≡ last
      → step_text t input source ≡ lines (t.blocks + 1) (all_blocks s) ++ cond last (end_line after.blocks after.paid) []
  unfolding step_text
  text_by e = ap (λ (b : Bool). lines (t.blocks + 1) (all_blocks s) ++ cond b (end_line after.blocks after.paid) []) e

  left_then : left after ≡ left t - block_count (length s)
  left_then =
      let n : length (all_blocks s) ≡ block_count (length s) = length_blocks (block_count (length s)) s in
      let f = few t input source in
      omega (arith, left_after t (all_blocks s) (omega arith))

  -- while something is wanted, less is left; where more can come, a whole block has to be there for that
  pub left_less : (source ≡ Open → 512 ≤ length input) → left after + min 1 w ≤ left t
  left_less block = by (way t input source)
    where
      by : Way t input source → left after + min 1 w ≤ left t
      by (broken f h e) = omega (arith, left_then)
      by (ended f e) = omega (arith, left_then)
      by (more f h e) = omega (arith, left_then, block f, came_length t input)

  pub wanted_whole : (w ≤ 65536) × (w % 512 ≡ 0)
  wanted_whole = by (way t input source)
    where
      by : Way t input source → (w ≤ 65536) × (w % 512 ≡ 0)
      by (broken f h e) = (omega arith, omega arith)
      by (ended f e) = (omega arith, omega arith)
      by (more f h e) = (omega arith, omega arith)

  -- where the run goes on or a read failed, the chunk is of whole blocks and no end line stands
  whole_blocks : Way t input source → (source ≡ Failed) ⊎ (0 < w) → length s % 512 ≡ 0
  unfolding order
  whole_blocks (broken f h e) m = h
  whole_blocks (ended f e) (inl b) = let z = ap order (sym f ∙ b) in absurd (omega arith)
  whole_blocks (ended f e) (inr m) = absurd (omega arith)
  whole_blocks (more f h e) m = omega arith

  none_wanted : Way t input source → source ≡ Ended → w ≡ 0
  unfolding order
  none_wanted (broken f h e) m = e
  none_wanted (ended f e) m = e
  none_wanted (more f h e) m = let z = ap order (sym f ∙ m) in absurd (omega arith)

  -- after the last chunk the file has ended, or all was read that may be read
  no_more : {done text rest : List ℕ} → Reported done t text → (source ≡ Failed → ⊥) → w ≡ 0 → (source ≡ Ended → rest ≡ []) → Way t input source
      → (rest ≡ []) ⊎ (512 * limit ≤ length done + length s)
  no_more g f z nothing (broken b h e) = absurd (f b)
  no_more g f z nothing (ended b e) = inl (nothing b)
  no_more g f z nothing (more b h e) = inr (omega (arith, left_then, left_reported g, g.whole, came_length t input))

  pub step_continues : {r : Progress} {bytes : List ℕ} → r.counts ≡ after → r.wanted ≡ w → bytes ≡ step_text t input source → Continues t input source r bytes
  step_continues {r} {bytes} ec ew eb =
      let near = few t input source in
      let all = way t input source in
      let on : (source ≡ Failed) ⊎ (0 < w) → (done text : List ℕ) → Reported done t text → Reported (done ++ s) r.counts (text ++ bytes) =
      λ m done text g. rw (ec, eb, text_by (ends_not source w m (none_wanted all)), append-nil) (reported_more g s near (whole_blocks all m)) in
      record {
        going = λ done text g m. on (inr (omega arith)) done text g;
        broken = λ done text g b. on (inl b) done text g;
        over = λ done text rest g f z nothing. let e = ends_at source w (sym ew ∙ z) f in rw (eb, text_by e) (reported_whole g s near rest (no_more g f (sym ew ∙ z) nothing all));
      }
