use Rattle.std.proofs.Common.{ℕ, ap, sym, arith, subst, ◌∙◌, ◌≡◌, ◌≤◌, ◌+◌, length, take, drop, take-add, drop-drop, length-drop, ◌++◌}
use Rattle.std.proofs.lemmas.List.{take_rest}
use Rattle.std.specs.Io.KnownBytes.{Appends}
use Rattle.std.proofs.KnownBytes.{Appends-trans}
use Rattle.values.proofs.output.write_whole.Goals as goal

pub loop-rest-preserved : goal.loop-rest-preserved
loop-rest-preserved g c =
    let (n, all, is, wrote) = c.loop-rest.invariant in
    let bytes = c.args.bytes.now in
    let rest = c.loop-rest.rest.now in
    let more = c.in_ok-n.n in
    let bound = c.in_ok-n.ensures.bound in
    let joined : take n bytes ++ take more rest ≡ take (n + more) bytes = ap (λ l. take n bytes ++ take more l) is ∙ sym (take-add n more bytes) in
    (n + more, omega (arith, all, bound, length-drop {A = ℕ}), take_rest rest more ∙ ap (drop more) is ∙ drop-drop more n bytes, subst (Appends _ _) joined (Appends-trans _ _ _ _ _ wrote c.in_ok-n.ensures.bytes))
