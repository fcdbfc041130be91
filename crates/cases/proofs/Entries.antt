-- Lines are the same where their date and their amounts are: `line_with` makes a line of what `amount_in` reads off it. No field
-- before the lines and no amount is missing from its list.
-- Assumes nothing.
use Rattle.std.proofs.Common.{true, ◌≡◌, refl, ap₂}
use Rattle.std.proofs.Math.Path.{fun_ext}
use Rattle.numbers.proofs.Lists.{listed}
use Rattle.cases.specs.Layout as layout
use Rattle.cases.specs.Layout.{Head, head_discrete, Amount, amount_discrete, heads, amounts}
use Rattle.cases.specs.Entries.{line_with, amount_in}
use Rattle.cases.specs.declared.Line.{Line}

pub same_line : (l m : Line) → l.date ≡ m.date → ((a : Amount) → amount_in a l ≡ amount_in a m) → l ≡ m
same_line l m d e = ap₂ line_with d (fun_ext e)

pub head_listed : (h : Head) → listed head_discrete h heads ≡ true
head_listed layout.kind = refl
head_listed layout.number = refl
head_listed layout.status = refl
head_listed layout.receiver = refl
head_listed layout.flags = refl
head_listed layout.count = refl
head_listed layout.service = refl
head_listed layout.sex = refl
head_listed layout.birth = refl
head_listed layout.leaving = refl
head_listed layout.guarantee = refl
head_listed layout.state_pension = refl
head_listed layout.revaluation = refl
head_listed layout.avc = refl
head_listed layout.transfer = refl
head_listed layout.contributions = refl

pub amount_listed : (a : Amount) → listed amount_discrete a amounts ≡ true
amount_listed layout.pension = refl
amount_listed layout.additional = refl
amount_listed layout.survivor = refl
amount_listed layout.dependant = refl
amount_listed layout.lump = refl
amount_listed layout.modification = refl
amount_listed layout.scheme_pays = refl
amount_listed layout.scheme_pays_lump = refl
amount_listed layout.debit_pension = refl
amount_listed layout.debit_survivor = refl
amount_listed layout.debit_lump = refl
