-- A row of factors: what its columns are, whether a row was found, its numbers, and how large its factors may be.
-- Assumes nothing.
use Rattle.std.specs.Prelude.{ℕ, ◌≤◌, Bool, List, [], ◌∷◌, get_or, Option, Some, None, is_none}
use Rattle.std.specs.Option.{unwrap_or}
use Rattle.factors.specs.declared.Factors.{Factors}

-- the factors of a row of 001: A pension, B lump sum, C survivor, and last the deduction
abbrev pub four_columns : List ℕ → Factors
four_columns row =
    record {
      pension = get_or row 0 0;
      lump = get_or row 1 0;
      survivor = get_or row 2 0;
      deduction = get_or row 3 0;
    }

-- the factors of a row of 003: A pension, B survivor
abbrev pub two_columns : List ℕ → Factors
two_columns row = record { pension = get_or row 0 0; lump = 0; survivor = get_or row 1 0; deduction = 0 }

abbrev pub no_factors : Factors
no_factors = record { pension = 0; lump = 0; survivor = 0; deduction = 0 }

-- whether there is no row
abbrev pub absent : Option Factors → Bool
absent row = is_none row

-- the factors of a row; zero where there is none
abbrev pub found : Option Factors → Factors
found row = unwrap_or row no_factors

-- the row in numbers: 1 and the four factors where there is one, else 0
abbrev pub row_numbers : Option Factors → List ℕ
row_numbers (Some f) = 1 ∷ f.pension ∷ f.lump ∷ f.survivor ∷ f.deduction ∷ []
row_numbers None = 0 ∷ []

-- no factor is above 99.99
pub record Small (f : Factors) : Type 0 where
  pub pension : f.pension ≤ 9999
  pub lump : f.lump ≤ 9999
  pub survivor : f.survivor ≤ 9999
  pub deduction : f.deduction ≤ 9999
