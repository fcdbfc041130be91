use Rattle.std.proofs.Common.{◌≡◌}
use Rattle.numbers.specs.Below.{any_below}
use Rattle.cases.specs.Entries.{line}
use Rattle.cases.specs.Kinds.{rules_of}
use Rattle.cases.specs.Form.{line_reserved_fault, line_range_fault}
use Rattle.cases.proofs.ruled.RuledCase.faults_of_lines.Given as goal

abbrev pub invariant-loop-place : goal.invariant-loop-place
invariant-loop-place l =
    let case = l.self.case.now in
    record {
      reserved : l.faults.reserved ≡ any_below l.place (λ k. line_reserved_fault (rules_of case.kind) case.flags case.count k (line case k));
      range : l.faults.range ≡ any_below l.place (λ k. line_range_fault (rules_of case.kind) case.count k (line case k));
    }
