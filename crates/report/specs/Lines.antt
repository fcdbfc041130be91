-- The lines of a report.
-- Assumes nothing.
use Rattle.std.specs.Prelude.{ℕ, ◌/◌, ◌^◌, List, ◌++◌, codes}
use Rattle.buffers.specs.Decimal.{decimal, fixed_point}
use Rattle.refusals.specs.Refusals.{number_of, name_of}
use Rattle.refusals.specs.declared.Refusal.{Refusal}
use Rattle.answers.specs.declared.Answer.{Answer}
use Rattle.answers.specs.declared.Items.{Items}
use Rattle.answers.specs.declared.Outcome.{Outcome}
use Rattle.answers.specs.declared.Outcome.TheVariants.{Paid, Refused}

-- the first line
abbrev pub header : List ℕ
header = codes "transfer values\n"

-- a word and an amount in units of which 10 ^ d make a pound, as pounds with d decimals
abbrev pub item : List ℕ → ℕ → ℕ → List ℕ
item word d n = word ++ fixed_point (n / 10 ^ d) d n

-- a payment with its items, in pounds: two decimals for what is whole pence (payment, underpin, AVC), four for what is not
unfoldable pub paid_text : Items → List ℕ
paid_text i =
    item (codes " pay ") 2 i.payment ++
    item (codes " pension ") 4 i.pension ++
    item (codes " lump ") 4 i.lump ++
    item (codes " survivor ") 4 i.survivor ++
    item (codes " deduct ") 4 i.deduction ++
    item (codes " underpin ") 2 i.underpin ++
    item (codes " avc ") 2 i.avc ++
    codes "\n"

-- a refusal with its number and name
unfoldable pub refused_text : Refusal → List ℕ
refused_text r = codes " refused " ++ decimal (number_of r) ++ codes " " ++ name_of r ++ codes "\n"

abbrev pub outcome_text : Outcome → List ℕ
outcome_text (Paid i) = paid_text i
outcome_text (Refused r) = refused_text r

-- the line of a block: its place, the case number, and the outcome
unfoldable pub line_of : ℕ → Answer → List ℕ
line_of place a = decimal place ++ codes " " ++ decimal a.number ++ outcome_text a.outcome

-- the last line: the count of blocks read and of those paid
unfoldable pub end_line : ℕ → ℕ → List ℕ
end_line blocks paid = codes "end " ++ decimal blocks ++ codes " blocks " ++ decimal paid ++ codes " paid\n"
