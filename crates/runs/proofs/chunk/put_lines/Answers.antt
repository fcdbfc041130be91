use Rattle.std.proofs.Common.{arith}
use Rattle.runs.proofs.Left.{left_within}
use Rattle.runs.proofs.Turns.{paid_within, at_end}
use Rattle.runs.proofs.chunk.put_lines.Goals as goal

pub overflow_add-lines-in-loop-block : goal.overflow_add-lines-in-loop-block
overflow_add-lines-in-loop-block c =
    let w = left_within c.args.counts (omega (arith, c.requires.few, c.in-Some.ensures.steps)) in
    omega (arith, paid_within c.loop-block.invariant.going, c.requires.few, c.paid_one.ensures.bound)

pub returns : goal.returns
returns c =
    let e = at_end c.loop-block.invariant.going c.in-None.ensures.steps.1.0 (omega (arith, c.requires.few)) in
    record { counts = e.0; written = e.1.0; bound = omega (arith, e.1.1) }
