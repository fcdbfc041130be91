-- Reading a block and valuing its case.
-- Assumes nothing.
use Rattle.std.specs.Prelude.{ℕ, List, ◌∷◌, Result, Ok, Err, ◌≡◌}
use Rattle.blocks.specs.Reading.{reading_of}
use Rattle.refusals.specs.declared.Refusal.{Refusal}
use Rattle.cases.specs.declared.Case.{Case}
use Rattle.answers.specs.Answer.{answer_of, outcome_numbers}
use Rattle.answers.specs.declared.Answer.{Answer}
use Rattle.answers.specs.declared.Outcome.{Outcome}
use Rattle.answers.specs.declared.Outcome.TheVariants.{Refused}

-- the outcome beside the case number, or beside 0 where reading gave the refusal
abbrev pub answer_by : Result Case Refusal → Answer
answer_by (Ok c) = record { number = c.number; outcome = answer_of c }
answer_by (Err why) = record { number = 0; outcome = Refused why }

unfoldable pub block_answer : List ℕ → Answer
block_answer s = answer_by (reading_of s)

-- the answer in numbers: the case number, and the outcome's
abbrev pub answer_numbers : Answer → List ℕ
answer_numbers a = a.number ∷ outcome_numbers a.outcome

-- P holds of the case in a block and of its outcome, where the block is read
abbrev pub WhereRead : (Case → Outcome → Type 0) → List ℕ → Answer → Type 0
WhereRead P s a = (c : Case) → reading_of s ≡ Ok c → P c a.outcome
