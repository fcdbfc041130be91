-- What forming a line answers, in numbers: what the definitions give beside what is stated.
-- Assumes nothing.
use Rattle.std.specs.Prelude.{List, [], ◌∷◌}
use Rattle.refusals.specs.declared.Refusal.TheVariants.{Kind}
use Rattle.answers.specs.declared.Answer.{Answer}
use Rattle.answers.specs.declared.Outcome.TheVariants.{Refused}
use Rattle.answers.specs.Figures.{Figure, ◌shows◌}
use Rattle.report.specs.Lines.{header, line_of}
use Rattle.report.specs.Forming.{formed_as, formed_numbers}

-- the answer to case 9, refused by valuing
abbrev pub refused_kind : Answer
refused_kind = record { number = 9; outcome = Refused Kind }

-- its line in place 4 in 255 bytes, which is refusal 15; and in 256, where it is "4 9 refused 3 kind", 18 characters and a line
-- feed; and the header, "transfer values", 15 characters and a line feed
abbrev pub forming_figures : List Figure
forming_figures =
    (formed_numbers (formed_as 255 (line_of 4 refused_kind)) shows 15 ∷ []) ∷
    (formed_numbers (formed_as 256 (line_of 4 refused_kind)) shows 0 ∷ 19 ∷ []) ∷
    (formed_numbers (formed_as 256 header) shows 0 ∷ 16 ∷ []) ∷ []
