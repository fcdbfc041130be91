-- The refusals: their numbers and names.
-- Assumes nothing.
use Rattle.std.specs.Prelude.{ℕ, List, codes}
use Rattle.refusals.specs.declared.Refusal.{Refusal}
use Rattle.refusals.specs.declared.Refusal.TheVariants as refusal

-- a refusal's number, and its name in ASCII
abbrev pub label : Refusal → ℕ × List ℕ
label refusal.Length = (1, codes "length")
label refusal.Check = (2, codes "check")
label refusal.Kind = (3, codes "kind")
label refusal.Reserved = (4, codes "reserved")
label refusal.Range = (5, codes "range")
label refusal.Dates = (6, codes "dates")
label refusal.Status = (7, codes "status")
label refusal.Receiver = (8, codes "receiver")
label refusal.Service = (9, codes "service")
label refusal.Refer = (10, codes "refer")
label refusal.Age = (11, codes "age")
label refusal.Factor = (12, codes "factor")
label refusal.Debit = (13, codes "debit")
label refusal.Negative = (14, codes "negative")
label refusal.Buffer = (15, codes "buffer")
label refusal.Award = (16, codes "award")
label refusal.Order = (17, codes "order")

abbrev pub number_of : Refusal → ℕ
number_of r = (label r).0

abbrev pub name_of : Refusal → List ℕ
name_of r = (label r).1
