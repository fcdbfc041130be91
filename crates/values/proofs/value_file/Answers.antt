use Rattle.std.proofs.Common.{rules, arith, ap, ◌≡◌, []}
use Rattle.std.proofs.KnownBytes.{Appends-nil}
use Rattle.std.specs.Io.KnownBytes.{IsAtEnd}
use Rattle.runs.specs.declared.Progress.{Progress}
use Rattle.runs.specs.declared.Source.TheVariants.{Ended}
use Rattle.values.proofs.Report.{Filled, header_begins, begins, start_written, step_begins, failed_reports, goes_on, whole_written}
use Rattle.values.proofs.value_file.Goals as goal

pub loop-outcome-init : goal.loop-outcome-init
loop-outcome-init g c =
    let w : c.start-run.result.wanted ≡ 65536 = ap (λ (p : Progress). p.wanted) c.start-run.ensures.answer in
    let h : c.start-run.result.held ≡ 0 = ap (λ (p : Progress). p.held) c.start-run.ensures.answer in
    let (n, few, wrote) = c.write_whole.ensures.first in
    record {
      wanted = search rules;
      held = omega arith;
      going = λ ok more. begins _ _ _ _ _ _ c.start-run.ensures.answer c.start-run.ensures.file (search rules);
      whole = λ ok none. absurd (omega (arith, none, w));
      start = start_written _ _ _ _ [] _ n (header_begins _ _ _ c.start-run.ensures.file) (Appends-nil _) wrote;
      cut = λ error is. absurd (search rules);
    }

pub loop-outcome-preserved : goal.loop-outcome-preserved
loop-outcome-preserved g c =
    let f = c.fill-got.ensures in
    let s = c.step-run.ensures in
    let told = c.source_of.ensures in
    let end : c.source_of.result ≡ Ended → IsAtEnd _ = λ e. f.ended (told.ended.0 e) in
    let (n, few, wrote) = c.write_whole-in-loop-outcome.ensures.first in
    let filled : Filled _ _ _ _ _ _ = record { bound = f.bound; size = c.fill-got.auto.buf; kept = f.kept; read = f.read } in
    let before = c.loop-outcome.invariant.going (search rules) (search rules) in
    record {
      wanted = s.room.0;
      held = s.room.1.0;
      going = λ ok. goes_on before filled s.file _ (search rules) _ s.answer s.part s.all;
      whole = λ ok. whole_written before filled s.file _ (search rules) (λ e. let bad = told.failed.0 e in search rules) end;
      start = start_written _ _ _ _ before.written _ n (step_begins before filled s.file end) before.wrote wrote;
      cut = λ error is.
          let (read, written) = c.outcome_of-outcome.ensures.input error is in
          failed_reports before filled s.file (told.failed.1 read) _ (search rules);
    }
