-- The check alone does not find these.
use Rattle.std.proofs.Common.{◌∙◌}
use Rattle.numbers.proofs.Below.{any_none, any_more}
use Rattle.cases.specs.Entries.{line_by}
use Rattle.cases.proofs.ruled.RuledCase.faults_of_lines.Goals as goal

pub loop-place-init : goal.loop-place-init
loop-place-init c =
    let none = c.default-faults.ensures in
    record { reserved = none.0 ∙ any_none _; range = none.1 ∙ any_none _ }

pub loop-place-preserved : goal.loop-place-preserved
unfolding line_by
loop-place-preserved c =
    let before = c.loop-place.invariant in
    let rules = c.args.self.now.ruled in
    record {
      reserved = rw (c.bitor-faults.ensures, any_more, before.reserved, c.faults_of_line.ensures, rules);
      range = rw (c.bitor-faults.ensures, any_more, before.range, c.faults_of_line.ensures, rules);
    }
