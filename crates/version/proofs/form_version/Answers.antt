use Rattle.std.proofs.Common.{arith, ◌≤◌, ◌∙◌, length, lit≤, rules}
use Rattle.buffers.specs.Decimal.{decimal, digits_within}
use Rattle.buffers.proofs.Writing.{puts_if_room, ◌then◌, from_new}
use Rattle.version.specs.Version.{version_line}
use Rattle.version.proofs.form_version.Goals as goal

short : length version_line ≤ 32
unfolding version_line decimal digits_within
short = lit≤ tt

pub returns : goal.returns
unfolding version_line
returns c =
    let all =
    from_new {t = version_line} c.new-line.ensures.bytes c.new-line.ensures.length (omega (arith, short))
    (rw c.from-n.ensures at
    (puts_if_room c.put.ensures then c.put_decimal.ensures then c.put-2.ensures then
    c.put_decimal-2.ensures then c.put-3.ensures then c.put_decimal-3.ensures then c.put-4.ensures)).written in
    let long = c.length.ensures ∙ all.0 in
    record { answer = long; bytes = search rules ∙ all.1; room = omega (arith, short, long) }
