-- What sets the kinds of case apart: one row to a kind, which the refusals and the choice of factors go by.
-- Assumes nothing.
use Rattle.std.specs.Prelude.{ℕ, true, false, List, [], ◌∷◌, get_or}
use Rattle.factors.specs.declared.Table.TheVariants.{Section1995, Section2008, Scheme2015, NoTable}
use Rattle.cases.specs.declared.Rules.{Rules}

-- kind 1: the 1995 section with pension age 60
abbrev pub section1995 : Rules
section1995 =
    record {
      lines = 1;
      dated = false;
      transfers = false;
      lump = true;
      choice_optants = false;
      modification = true;
      sex = false;
      pension_age = 60;
      table = Section1995;
    }

-- kind 2: the 2015 scheme, whose lines are dated
abbrev pub scheme2015 : Rules
scheme2015 =
    record {
      lines = 4;
      dated = true;
      transfers = true;
      lump = false;
      choice_optants = false;
      modification = false;
      sex = false;
      pension_age = 0;
      table = Scheme2015;
    }

-- kind 3: the 2008 section with pension age 65, of whose members only Choice Optants have a lump sum
abbrev pub section2008 : Rules
section2008 =
    record {
      lines = 1;
      dated = false;
      transfers = false;
      lump = false;
      choice_optants = true;
      modification = true;
      sex = true;
      pension_age = 65;
      table = Section2008;
    }

-- no other kind is valued
abbrev pub no_kind : Rules
no_kind =
    record {
      lines = 0;
      dated = false;
      transfers = false;
      lump = false;
      choice_optants = false;
      modification = false;
      sex = false;
      pension_age = 0;
      table = NoTable;
    }

-- the rows by their kinds, from 0
abbrev pub kinds : List Rules
kinds = no_kind ∷ section1995 ∷ scheme2015 ∷ section2008 ∷ []

unfoldable pub rules_of : ℕ → Rules
rules_of kind = get_or kinds kind no_kind
