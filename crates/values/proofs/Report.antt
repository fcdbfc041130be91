-- What a run has read and written so far, and how a step goes on from there.
-- Assumes nothing.
use Rattle.std.proofs.Common.{◌≡◌, ℕ, zero, suc, ◌-◌, ◌%◌, ◌≤◌, ◌<◌, List, [], ◌++◌, length, take, drop, None, Some, IfSome, refl, sym, ap, subst, ◌∙◌, arith, append_assoc, append-nil, length-take, length-take-le, length-drop, length-append, take-take, take_at, take_all, take-append-drop}
use Rattle.std.proofs.lemmas.List.{drop_all, take-append-le}
use Rattle.std.specs.Prelude.{Option}
use Rattle.std.specs.Io.{StartsWith}
use Rattle.std.specs.Io.KnownBytes.{Appends, Consumes, IsAtEnd}
use Rattle.std.proofs.KnownBytes.{Appends-trans, Consumes-nil, Consumes-trans}
use Rattle.runs.specs.declared.Counts.{Counts}
use Rattle.runs.specs.declared.Progress.{Progress}
use Rattle.runs.specs.declared.Source.{Source}
use Rattle.runs.specs.declared.Source.TheVariants.{Open, Ended, Failed}
use Rattle.runs.specs.Run.{wanted_after, report_of}
use Rattle.runs.specs.Steps.{bytes_taken, wanted_unless, came, chunk, waiting_part, counts_after, start_of, step_of, Reported, Continues}
use Rattle.runs.proofs.Reports.{reported_start}

-- what holds of the bytes read with any others after them holds of the file
known : (a b : Option (List ℕ)) (bs : List ℕ) (P : List ℕ → Type 0) → Consumes a b bs → ((ys : List ℕ) → P (bs ++ ys)) → IfSome a P
known None b bs P read each = tt
known (Some x) None bs P read each = absurd read
known (Some x) (Some y) bs P read each = subst P (sym read) (each y)

-- the report of the file goes on after a text
abbrev pub Begins : Option (List ℕ) → List ℕ → Type 0
Begins file text = IfSome file (λ all. (more : List ℕ) × (report_of all ≡ text ++ more))

reported_begins : (file next : Option (List ℕ)) (done part text : List ℕ) (t : Counts) → Reported done t text → Consumes file next (done ++ part) → Begins file text
reported_begins file next done part text t told read =
    known file next (done ++ part) (λ all. (more : List ℕ) × (report_of all ≡ text ++ more)) read (λ ys.
    let on = reported_start (part ++ ys) told in
    (on.0, ap report_of (append_assoc done part ys) ∙ on.1))

whole_begins : (file : Option (List ℕ)) (text : List ℕ) → IfSome file (λ all. text ≡ report_of all) → Begins file text
whole_begins None text is = tt
whole_begins (Some all) text is = ([], sym is ∙ sym (append-nil text))

-- what was written, and the first n bytes of the text that was to be written next, start the report
pub start_written : (file begun now later : Option (List ℕ)) (written text : List ℕ) (n : ℕ) → Begins file (written ++ text) → Appends begun now written
    → Appends now later (take n text) → IfSome file (λ all. (bytes : List ℕ) × StartsWith (report_of all) bytes × Appends begun later bytes)
start_written None begun now later written text n starts wrote last = tt
start_written (Some all) begun now later written text n starts wrote last =
    let (more, is) = starts in
    let bytes : List ℕ = written ++ take n text in
    let rest : List ℕ = drop n text ++ more in
    let split : written ++ text ++ more ≡ bytes ++ rest =
    ap (λ l. written ++ l ++ more) (sym (take-append-drop n text)) ∙ ap (λ l. l ++ more) (sym (append_assoc written (take n text) (drop n text)))
    ∙ append_assoc bytes (drop n text) more in (
      bytes,
      ap (take (length bytes)) (is ∙ split) ∙ take_at bytes rest (length bytes) refl,
      Appends-trans begun now later written (take n text) wrote last,
    )

-- while more is wanted: the bytes done were read, and after them the part of a block that waits; what was written is the report of
-- those done
pub record Going (file left begun now : Option (List ℕ)) (run : Progress) (input : List ℕ) : Type 0 where
  pub done : List ℕ
  pub written : List ℕ
  pub want : run.wanted ≡ wanted_after run.counts
  pub told : Reported done run.counts written
  pub read : Consumes file left (done ++ take run.held input)
  pub wrote : Appends begun now written

-- at the start, before the header is written and after
pub header_begins : (file : Option (List ℕ)) (t : Counts) (text : List ℕ) → Reported [] t text → Begins file ([] ++ text)
header_begins file t text told = reported_begins file file [] [] text t told (Consumes-nil file)

pub begins : (file begun now : Option (List ℕ)) (run : Progress) (input text : List ℕ) → run ≡ start_of → Reported [] run.counts text → Appends begun now text
    → Going file file begun now run input
begins file begun now run input text is told wrote = record {
  done = [];
  written = text;
  want = ap (λ (p : Progress). p.wanted) is ∙ ap wanted_after (sym (ap (λ (p : Progress). p.counts) is));
  told = told;
  read = subst (Consumes file file) (sym (ap (λ (p : Progress). take p.held input) is)) (Consumes-nil file);
  wrote = wrote;
}

more_wanted : (s : Source) (t : Counts) → 0 < wanted_unless s t → wanted_unless s t ≡ wanted_after t
more_wanted Open t some = refl
more_wanted Ended t some = absurd (omega arith)
more_wanted Failed t some = absurd (omega arith)

-- what was wanted was read after the part that waits: buf stands at the start of the input then, and its first bytes are those that
-- were held or read
pub record Filled (left next : Option (List ℕ)) (run : Progress) (input buf : List ℕ) (got : ℕ) : Type 0 where
  pub bound : (run.held ≤ got) × (got ≤ length (take run.wanted input))
  pub size : length buf ≡ length (take run.wanted input)
  pub kept : take run.held buf ≡ take run.held (take run.wanted input)
  pub read : Consumes left next (drop run.held (take got buf))

-- then a step is taken with these bytes: text is what it formed
module _ {file left next begun now : Option (List ℕ)} {run after : Progress} {input buf text : List ℕ} {got : ℕ} {s : Source}
    (before : Going file left begun now run input) (filled : Filled left next run input buf got)
    (adds : Continues run.counts (take got (buf ++ drop run.wanted input)) s after text) where
  abbrev bytes : List ℕ
  bytes = take got (buf ++ drop run.wanted input)

  abbrev taken : List ℕ
  taken = chunk run.counts bytes s

  abbrev rest : List ℕ
  rest = drop (bytes_taken s got) bytes

  -- what was held, and what was read after it
  joined : take run.held input ++ drop run.held (take got buf) ≡ bytes
  joined =
      let low : run.held ≤ run.wanted = omega (arith, filled.bound, length-take run.wanted input) in
      let room : got ≤ length buf = omega (arith, filled.bound, filled.size) in
      ap (λ l. l ++ drop run.held (take got buf)) (sym (take-take run.held run.wanted input low) ∙ sym filled.kept ∙ sym (take-take run.held got buf filled.bound.0))
      ∙ take-append-drop run.held (take got buf) ∙ sym (take-append-le got buf (drop run.wanted input) room)

  length_bytes : length bytes ≡ got
  length_bytes =
      let room : got ≤ length buf = omega (arith, filled.bound, filled.size) in
      ap length (take-append-le got buf (drop run.wanted input) room) ∙ length-take-le got buf room

  all_came : came run.counts bytes ≡ bytes
  all_came = take_all (wanted_after run.counts) bytes (omega (arith, length_bytes, before.want, filled.bound, length-take run.wanted input))

  all_read : Consumes file next (before.done ++ bytes)
  all_read =
      subst (Consumes file next) (append_assoc before.done (take run.held input) (drop run.held (take got buf)) ∙ ap (λ l. before.done ++ l) joined)
      (Consumes-trans file left next _ _ before.read filled.read)

  parts : taken ++ rest ≡ bytes
  unfolding chunk
  parts =
      ap (λ (k : ℕ). take (bytes_taken s k) bytes ++ rest) (ap length all_came ∙ length_bytes) ∙ take-append-drop (bytes_taken s got) bytes

  parts_read : Consumes file next ((before.done ++ taken) ++ rest)
  parts_read = subst (Consumes file next) (ap (λ l. before.done ++ l) (sym parts) ∙ sym (append_assoc before.done taken rest)) all_read

  none_left : s ≡ Ended → rest ≡ []
  none_left e =
      let all : bytes_taken s got ≡ got = ap (λ r. bytes_taken r got) e in
      drop_all (bytes_taken s got) bytes (omega (arith, length_bytes))

  -- once nothing more is wanted the text ends the report
  ends_whole : (s ≡ Failed → ⊥) → (s ≡ Ended → IsAtEnd next) → after.wanted ≡ 0 → IfSome file (λ all. before.written ++ text ≡ report_of all)
  ends_whole sound end none = by file next all_read end
    where
      by : (a b : Option (List ℕ)) → Consumes a b (before.done ++ bytes) → (s ≡ Ended → IsAtEnd b) → IfSome a (λ all. before.written ++ text ≡ report_of all)
      by None b r e = tt
      by (Some xs) None r e = absurd r
      by (Some xs) (Some ys) r e =
          adds.over before.done before.written (rest ++ ys) before.told sound none (λ h. ap (λ l. rest ++ l) (e h) ∙ append-nil rest ∙ none_left h)
          ∙ ap report_of (ap (λ l. before.done ++ l) (sym (append_assoc taken rest ys) ∙ ap (λ l. l ++ ys) parts) ∙ sym (append_assoc before.done bytes ys) ∙ sym r)

  pub step_begins : (s ≡ Ended → IsAtEnd next) → Begins file (before.written ++ text)
  step_begins end = by s refl
    where
      reported : (s ≡ Failed → ⊥) → (w : ℕ) → after.wanted ≡ w → Begins file (before.written ++ text)
      reported sound zero none = whole_begins file (before.written ++ text) (ends_whole sound end none)
      reported sound (suc w) more = reported_begins file next (before.done ++ taken) rest _ _ (adds.going before.done before.written before.told (omega arith)) parts_read

      by : (source : Source) → s ≡ source → Begins file (before.written ++ text)
      by Open is = reported (λ e. cc) after.wanted refl
      by Ended is = reported (λ e. cc) after.wanted refl
      by Failed is = reported_begins file next (before.done ++ taken) rest _ _ (adds.broken before.done before.written before.told is) parts_read

  pub failed_reports : s ≡ Failed → (later : Option (List ℕ)) → Appends now later text
      → (done : List ℕ) × (part : List ℕ) × (counts : Counts) × (written : List ℕ) × Consumes file next (done ++ part) × (length part < 512)
      × Reported done counts written × Appends begun later written
  failed_reports is later wrote =
      let whole : bytes_taken s got ≡ got - got % 512 = ap (λ r. bytes_taken r got) is in
      let few : length rest < 512 = omega (arith, length-drop (bytes_taken s got) bytes, length_bytes) in (
        before.done ++ taken,
        rest,
        after.counts,
        before.written ++ text,
        parts_read,
        few,
        adds.broken before.done before.written before.told is,
        Appends-trans begun now later before.written text before.wrote wrote,
      )

  module _ (later : Option (List ℕ)) (wrote : Appends now later text) where
    all_written : Appends begun later (before.written ++ text)
    all_written = Appends-trans begun now later before.written text before.wrote wrote

    -- new stands in place of these bytes after the step
    pub goes_on : (new : List ℕ) → after ≡ step_of run.counts (take got (buf ++ drop run.wanted input)) s
        → new ≡ waiting_part run.counts (take got (buf ++ drop run.wanted input)) s ++ drop after.held (take got (buf ++ drop run.wanted input))
        → chunk run.counts (take got (buf ++ drop run.wanted input)) s ++ take after.held new ≡ came run.counts (take got (buf ++ drop run.wanted input))
        → 0 < after.wanted → Going file next begun later after (new ++ drop got (buf ++ drop run.wanted input))
    goes_on new is part all more =
        let wanted_is : after.wanted ≡ wanted_unless s (counts_after run.counts bytes s) = ap (λ (p : Progress). p.wanted) is in
        let counts_is : after.counts ≡ counts_after run.counts bytes s = ap (λ (p : Progress). p.counts) is in
        let held_is : after.held ≡ length (waiting_part run.counts bytes s) = ap (λ (p : Progress). p.held) is in
        let room : after.held ≤ length new = omega (arith, ap length part, length-append (waiting_part run.counts bytes s) (drop after.held bytes)) in
        record {
          done = before.done ++ taken;
          written = before.written ++ text;
          want = wanted_is ∙ more_wanted s _ (subst (λ k. 0 < k) wanted_is more) ∙ ap wanted_after (sym counts_is);
          told = adds.going before.done before.written before.told more;
          read = subst (Consumes file next)
              (ap (λ l. before.done ++ l) (sym all_came ∙ sym all ∙ ap (λ l. taken ++ l) (sym (take-append-le after.held new (drop got (buf ++ drop run.wanted input)) room)))
              ∙ sym (append_assoc before.done taken (take after.held (new ++ drop got (buf ++ drop run.wanted input)))))
              all_read;
          wrote = all_written;
        }

    pub whole_written : (s ≡ Failed → ⊥) → (s ≡ Ended → IsAtEnd next) → after.wanted ≡ 0 → IfSome file (λ all. Appends begun later (report_of all))
    whole_written sound end none = by file (ends_whole sound end none)
      where
        by : (a : Option (List ℕ)) → IfSome a (λ all. before.written ++ text ≡ report_of all) → IfSome a (λ all. Appends begun later (report_of all))
        by None same = tt
        by (Some all) same = subst (Appends begun later) same all_written
