use Rattle.std.proofs.Common.{◌≡◌}
use Rattle.numbers.specs.Below.{any_below}
use Rattle.cases.specs.Kinds.{rules_of}
use Rattle.cases.specs.Form.{line_reserved_fault, line_range_fault}
use Rattle.blocks.specs.Block.{line_of}
use Rattle.blocks.proofs.read.faults_of_lines.Given as goal

abbrev pub invariant-loop-index : goal.invariant-loop-index
invariant-loop-index l =
    let case = l.head.case.now in
    record {
      reserved : l.faults.reserved ≡ any_below l.index (λ k. line_reserved_fault (rules_of case.kind) case.flags case.count k (line_of l.block k));
      range : l.faults.range ≡ any_below l.index (λ k. line_range_fault (rules_of case.kind) case.count k (line_of l.block k));
    }
