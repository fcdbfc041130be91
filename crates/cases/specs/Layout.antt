-- The case block: the entries of a case, and where each stands in the block's 512 bytes.
-- Assumes nothing.
use Rattle.std.specs.Prelude.{ℕ, ◌+◌, ◌*◌, ◌-◌, Bool, ◌&&◌, List, [], ◌∷◌, ◌++◌, map, leb}

-- the fields before the lines
pub data Head : Type 0 where
  kind number status receiver flags count service sex : Head
  birth leaving guarantee state_pension revaluation : Head
  avc transfer contributions : Head
  deriving Discrete as head_discrete

-- the amounts of a line; those of Scheme Pays are debits, and the last three are its divorce debit
pub data Amount : Type 0 where
  pension additional survivor dependant lump modification scheme_pays scheme_pays_lump : Amount
  debit_pension debit_survivor debit_lump : Amount
  deriving Discrete as amount_discrete

-- the entries of a case (01's term): every field of its block but the check, the same field of two lines being two entries. Lines
-- count from 0
pub data Entry : Type 0 where
  head : Head → Entry
  date : ℕ → Entry
  amount : ℕ → Amount → Entry

-- where a field stands: its offset in the block and its width in bytes
pub record Field : Type 0 where
  pub offset : ℕ
  pub width : ℕ

infix 5 ◌wide◌
abbrev pub ◌wide◌ : ℕ → ℕ → Field
◌wide◌ o w = record { offset = o; width = w }

abbrev pub head_at : Head → Field
head_at kind = 0 wide 2
head_at number = 4 wide 4
head_at status = 8 wide 1
head_at receiver = 9 wide 1
head_at flags = 10 wide 1
head_at count = 11 wide 1
head_at service = 12 wide 2
head_at sex = 14 wide 1
head_at birth = 16 wide 4
head_at leaving = 20 wide 4
head_at guarantee = 24 wide 4
head_at state_pension = 28 wide 4
head_at revaluation = 32 wide 4
head_at avc = 40 wide 8
head_at transfer = 48 wide 8
head_at contributions = 56 wide 8

-- where line i starts
abbrev pub line_at : ℕ → ℕ
line_at i = 64 + i * 72

-- where its divorce debit starts: these stand after all the lines
abbrev pub divorce_debit_at : ℕ → ℕ
divorce_debit_at i = 352 + i * 24

-- where its amounts stand
abbrev pub amount_at : ℕ → Amount → ℕ
amount_at i pension = line_at i + 8
amount_at i additional = line_at i + 16
amount_at i survivor = line_at i + 24
amount_at i dependant = line_at i + 32
amount_at i lump = line_at i + 40
amount_at i modification = line_at i + 48
amount_at i scheme_pays = line_at i + 56
amount_at i scheme_pays_lump = line_at i + 64
amount_at i debit_pension = divorce_debit_at i
amount_at i debit_survivor = divorce_debit_at i + 8
amount_at i debit_lump = divorce_debit_at i + 16

abbrev pub place : Entry → Field
place (head h) = head_at h
place (date i) = line_at i wide 4
place (amount i a) = amount_at i a wide 8

abbrev pub check : Field
check = 508 wide 4

-- the fields before the lines, and the amounts of a line, in block order; that none is left out is the laws head_listed and
-- amount_listed
abbrev pub heads : List Head
heads =
    kind ∷ number ∷ status ∷ receiver ∷ flags ∷ count ∷ service ∷ sex ∷
    birth ∷ leaving ∷ guarantee ∷ state_pension ∷ revaluation ∷ avc ∷ transfer ∷ contributions ∷ []

abbrev pub amounts_of_line : List Amount
amounts_of_line = pension ∷ additional ∷ survivor ∷ dependant ∷ lump ∷ modification ∷ scheme_pays ∷ scheme_pays_lump ∷ []

abbrev pub amounts_of_divorce_debit : List Amount
amounts_of_divorce_debit = debit_pension ∷ debit_survivor ∷ debit_lump ∷ []

abbrev pub amounts : List Amount
amounts = amounts_of_line ++ amounts_of_divorce_debit

-- what stands for each line, one line after the other
abbrev pub of_lines : (ℕ → List Entry) → List Entry
of_lines e = e 0 ++ e 1 ++ e 2 ++ e 3

-- every field in block order: all the lines, and then all their divorce debits
abbrev pub entries : List Entry
entries =
    map head heads ++
    of_lines (λ i. date i ∷ map (amount i) amounts_of_line) ++
    of_lines (λ i. map (amount i) amounts_of_divorce_debit)

-- the fields of the block in their order
abbrev pub layout : List Field
layout = map place entries ++ (check ∷ [])

-- each field starts no earlier than the one before it ends, the first no earlier than from, and the last ends within size; that this
-- is so of the layout is the law in_order of `blocks`
abbrev pub ordered : ℕ → ℕ → List Field → Bool
ordered from size [] = leb from size
ordered from size (f ∷ fs) = leb from f.offset && ordered (f.offset + f.width) size fs

-- the bytes that no field names: from where one field ends to where the next starts, and from the last to the block's end
abbrev pub gaps : ℕ → ℕ → List Field → List Field
gaps from size [] = (from wide (size - from)) ∷ []
gaps from size (f ∷ fs) = (from wide (f.offset - from)) ∷ gaps (f.offset + f.width) size fs
