use Rattle.std.proofs.Common.{ℕ, ◌≤◌, ◌<◌, min, ◌≡◌, ◌++◌, ap, ◌∙◌, arith, length, length-take, length-drop, take, drop, rules}
use Rattle.buffers.proofs.Writing.{from_start}
use Rattle.runs.specs.Run.{wanted_after}
use Rattle.runs.specs.Steps.{bytes_taken, came, waiting_part}
use Rattle.runs.proofs.Parts.{none_lost, taken_few, take_came, part_kept}
use Rattle.runs.proofs.Steps.{came_length, front, step_made, step_continues, left_less, wanted_whole}
use Rattle.runs.proofs.run.step.Goals as goal

pub returns : goal.returns
unfolding waiting_part
returns c =
    let t = c.args.counts in
    let input = c.args.input.now in
    let source = c.args.source in
    let end = c.min-end.result in
    let taken = c.bytes_taken-taken.result in
    let held = c.keep_from-held.result in
    let ended : end ≡ min (length input) (wanted_after t) = c.min-end.ensures ∙ ap (min (length input)) c.wanted.ensures in
    let those : take end input ≡ came t input = take_came t input end ended in
    let count : end ≡ length (came t input) = omega (arith, came_length t input) in
    let taken_is : taken ≡ bytes_taken source (length (came t input)) = c.bytes_taken-taken.ensures.value ∙ ap (bytes_taken source) count in
    let made = step_made t input source taken_is c.put_lines-lines.ensures.counts c.wanted-wanted.ensures c.ends.ensures c.put_lines-lines.ensures.written c.put_end-length.ensures in
    let text = from_start made.1.1 in
    let kept : held ≡ length (waiting_part t input source) =
    omega (arith, c.keep_from-held.ensures.answer, length-drop {A = ℕ}, length-take end input, taken_is) in
    let waits : drop taken (take end input) ≡ waiting_part t input source = rw (taken_is, those) in
    let few : held < 512 = omega (arith, kept, length-drop (bytes_taken source (length (came t input))) (came t input), taken_few source (length (came t input))) in
    let low : held ≤ end = omega (arith, kept, length-drop (bytes_taken source (length (came t input))) (came t input)) in
    let part = ap (λ l. l ++ drop end input) c.keep_from-held.ensures.bytes ∙ part_kept input (drop taken (take end input)) end held low (omega arith)
    ∙ ap (λ l. l ++ drop held input) waits in
    let wide : length c.args.out.now ≡ 33024 = search rules in
    let whole = wanted_whole t input source in
    record {
      answer = λ i. record { counts = made.0 i; wanted = made.1.0 i; held = kept i; length = text.0 i };
      bytes = rw text.0 text.1;
      file = step_continues t input source made.0 made.1.0 (front _ _ text.0 text.1);
      part = part;
      all = none_lost t input source kept part;
      room = ((omega (arith, whole.0, made.1.0), rw made.1.0 whole.1), (few, omega (arith, made.1.1.room)));
      less = λ block. rw (made.0, made.1.0) (left_less t input source block);
    }
