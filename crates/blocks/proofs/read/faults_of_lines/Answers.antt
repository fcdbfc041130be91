use Rattle.std.proofs.Common.{◌≡◌, sym, ◌∙◌, arith}
use Rattle.std.proofs.Math.Bool.{or-false}
use Rattle.numbers.specs.Below.{any_below}
use Rattle.numbers.proofs.Below.{any_none, any_more}
use Rattle.cases.specs.Entries.{case_by}
use Rattle.cases.specs.Kinds.{rules_of}
use Rattle.cases.proofs.PastCount.{zero_faults}
use Rattle.blocks.specs.Block.{line_of, case_of}
use Rattle.blocks.proofs.Zeros.{zero_line}
use Rattle.blocks.proofs.read.faults_of_lines.Goals as goal

pub loop-index-init : goal.loop-index-init
loop-index-init c =
    let none = c.default-faults.ensures in
    record { reserved = none.0 ∙ any_none _; range = none.1 ∙ any_none _ }

pub loop-index-preserved : goal.loop-index-preserved
loop-index-preserved c =
    let before = c.loop-index.invariant in
    let ruled = c.args.head.now.ruled in
    record {
      reserved = rw (c.bitor-faults.ensures, any_more, before.reserved, c.faults_of_line.ensures, ruled, c.line_of-line.ensures);
      range = rw (c.bitor-faults.ensures, any_more, before.range, c.faults_of_line.ensures, ruled, c.line_of-line.ensures);
    }

pub loop-index-preserved-then-not-line_nonzero : goal.loop-index-preserved-then-not-line_nonzero
loop-index-preserved-then-not-line_nonzero c =
    let before = c.loop-index.invariant in
    let s = c.args.block.now in
    let case = c.args.head.now.case.now in
    let place = c.loop-index.index in
    let zero = zero_line s place (omega arith) (omega arith) (sym c.line_nonzero.ensures ∙ c.if-not-line_nonzero.true) in
    let none = zero_faults (rules_of case.kind) case.count place (line_of s place) case.flags (omega arith) zero in
    record {
      reserved = rw (any_more, before.reserved, none.0, or-false);
      range = rw (any_more, before.range, none.1, or-false);
    }

pub returns : goal.returns
unfolding any_below case_of case_by
returns c =
    let all : c.loop-index.index ≡ 4 = omega arith in
    let broken = c.loop-index.invariant in
    let reserved = rw all at broken.reserved in
    let range = rw all at broken.range in
    rw (reserved, range)
