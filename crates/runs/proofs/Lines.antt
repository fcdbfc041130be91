-- The laws of the lines of blocks and of their counts.
-- Assumes nothing.
use Rattle.std.proofs.Common.{ℕ, suc, ◌+◌, ◌≤◌, zero-le, List, [], ◌∷◌, ◌++◌, append_assoc, ◌≡◌, sym, ap, ◌∙◌, add-zero, zero-add, add_assoc, arith, length}
use Rattle.valuing.specs.Block.{block_answer}
use Rattle.answers.specs.declared.Outcome.{Outcome}
use Rattle.answers.specs.declared.Outcome.TheVariants.{Paid, Refused}
use Rattle.report.specs.Lines.{line_of}
use Rattle.runs.specs.Run.{lines, paid_one, paid_in}

pub lines_append : (p : ℕ) (xs ys : List (List ℕ)) → lines p (xs ++ ys) ≡ lines p xs ++ lines (p + length xs) ys
unfolding lines
lines_append p [] ys = rw add-zero
lines_append p (x ∷ xs) ys =
    let e : p + 1 + length xs ≡ p + suc (length xs) = omega arith in
    ap (λ (l : List ℕ). line_of p (block_answer x) ++ l) (lines_append (p + 1) xs ys)
    ∙ sym (append_assoc (line_of p (block_answer x)) (lines (p + 1) xs) (lines (p + 1 + length xs) ys)) ∙ rw e

pub paid_append : (xs ys : List (List ℕ)) → paid_in (xs ++ ys) ≡ paid_in xs + paid_in ys
unfolding paid_in
paid_append [] ys = sym (zero-add (paid_in ys))
paid_append (x ∷ xs) ys = rw (paid_append xs ys) (sym (add_assoc (paid_one (block_answer x).outcome) (paid_in xs) (paid_in ys)))

one_at_most : (o : Outcome) → paid_one o ≤ 1
one_at_most (Paid i) = omega arith
one_at_most (Refused r) = omega arith

pub paid_few : (xs : List (List ℕ)) → paid_in xs ≤ length xs
unfolding paid_in
paid_few [] = zero-le
paid_few (x ∷ xs) = omega (arith, paid_few xs, one_at_most (block_answer x).outcome)
