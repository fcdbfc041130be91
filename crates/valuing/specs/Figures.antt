-- The numbers of an answer, with the case number before those of the outcome: what the definitions give beside what is stated.
-- Assumes nothing.
use Rattle.std.specs.Prelude.{List, [], ◌∷◌, Err}
use Rattle.refusals.specs.declared.Refusal.TheVariants.{Length, Award}
use Rattle.answers.specs.declared.Items.{Items}
use Rattle.answers.specs.declared.Outcome.TheVariants.{Paid, Refused}
use Rattle.answers.specs.Figures.{Figure, ◌shows◌}
use Rattle.valuing.specs.Block.{answer_by, answer_numbers}

abbrev pub paid_1_to_7 : Items
paid_1_to_7 = record { payment = 1; pension = 2; lump = 3; survivor = 4; deduction = 5; underpin = 6; avc = 7 }

-- a payment of case 9, a refusal of case 9 by valuing, and one by reading, with 0 for the case number
abbrev pub answer_figures : List Figure
answer_figures =
    (answer_numbers (record { number = 9; outcome = Paid paid_1_to_7 }) shows
    9 ∷ 0 ∷ 1 ∷ 2 ∷ 3 ∷ 4 ∷ 5 ∷ 6 ∷ 7 ∷ []) ∷
    (answer_numbers (record { number = 9; outcome = Refused Award }) shows 9 ∷ 16 ∷ []) ∷
    (answer_numbers (answer_by (Err Length)) shows 0 ∷ 1 ∷ []) ∷ []
