-- The rows that 01 and the examples of 001 print, with the first and last row of each table by age, the rows on either side of 60 in
-- TV4, and the keys on either side of each table.
-- Assumes nothing.
use Rattle.std.proofs.Common.{ℕ, List, [], ◌∷◌, map, ◌≡◌, refl}
use Rattle.factors.specs.Rows.{row_numbers}
use Rattle.factors.specs.Tables.{section1995_table, section2008_men_table, section2008_women_below60_table, section2008_women_from60_table, scheme2015_table, row_at, section2008_women_row, row_in}
use Rattle.factors.specs.declared.Table.{Table}
use Rattle.factors.specs.declared.Table.TheVariants.{Section1995, Section2008, Scheme2015}

abbrev section : Table → ℕ → ℕ → List ℕ
section table sex age = row_numbers (row_in table sex age 0)

abbrev scheme : ℕ → List ℕ
scheme years = row_numbers (row_in Scheme2015 0 0 years)

-- 1995 at ages 21, 22, 52, 54, 59, 60; 2008, men at ages 17, 18, 35, 50, 63, 64, 65, women at ages 17, 18, 59, 60, 63, 64,
-- 65; 2015 at 0, 2, 25, 51 years
pub printed :
    (map (section Section1995 0) (21 ∷ 22 ∷ 52 ∷ 54 ∷ 59 ∷ 60 ∷ []) ≡
    (0 ∷ []) ∷
    (1 ∷ 893 ∷ 41 ∷ 84 ∷ 518 ∷ []) ∷
    (1 ∷ 1724 ∷ 84 ∷ 147 ∷ 1173 ∷ []) ∷
    (1 ∷ 1805 ∷ 88 ∷ 150 ∷ 1242 ∷ []) ∷
    (1 ∷ 2034 ∷ 99 ∷ 154 ∷ 1437 ∷ []) ∷
    (0 ∷ []) ∷ []) ×
    (map (section Section2008 1) (17 ∷ 18 ∷ 35 ∷ 50 ∷ 63 ∷ 64 ∷ 65 ∷ []) ≡
    (0 ∷ []) ∷
    (1 ∷ 650 ∷ 33 ∷ 76 ∷ 465 ∷ []) ∷
    (1 ∷ 929 ∷ 50 ∷ 115 ∷ 735 ∷ []) ∷
    (1 ∷ 1284 ∷ 71 ∷ 146 ∷ 1109 ∷ []) ∷
    (1 ∷ 1739 ∷ 97 ∷ 159 ∷ 1623 ∷ []) ∷
    (1 ∷ 1783 ∷ 99 ∷ 159 ∷ 1674 ∷ []) ∷
    (0 ∷ []) ∷ []) ×
    (map (section Section2008 2) (17 ∷ 18 ∷ 59 ∷ 60 ∷ 63 ∷ 64 ∷ 65 ∷ []) ≡
    (0 ∷ []) ∷
    (1 ∷ 650 ∷ 33 ∷ 76 ∷ 465 ∷ []) ∷
    (1 ∷ 1577 ∷ 88 ∷ 158 ∷ 1437 ∷ []) ∷
    (1 ∷ 1615 ∷ 90 ∷ 159 ∷ 1480 ∷ []) ∷
    (1 ∷ 1739 ∷ 97 ∷ 159 ∷ 1623 ∷ []) ∷
    (1 ∷ 1783 ∷ 99 ∷ 159 ∷ 1674 ∷ []) ∷
    (0 ∷ []) ∷ []) ×
    (map scheme (0 ∷ 2 ∷ 25 ∷ 51 ∷ []) ≡
    (0 ∷ []) ∷
    (1 ∷ 1665 ∷ 0 ∷ 160 ∷ 0 ∷ []) ∷
    (1 ∷ 927 ∷ 0 ∷ 133 ∷ 0 ∷ []) ∷
    (0 ∷ []) ∷ [])
unfolding section1995_table section2008_men_table section2008_women_below60_table section2008_women_from60_table scheme2015_table row_at section2008_women_row row_in
printed = (refl, refl, refl, refl)
