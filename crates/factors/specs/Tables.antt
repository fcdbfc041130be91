-- The factor tables of the notes, as lists of rows in hundredths, and the row that a key finds.
-- Assumes nothing.
use Rattle.std.specs.Prelude.{ℕ, ◌-◌, ◌==◌, nat_lt, leb, if◌then◌else◌, List, [], ◌∷◌, slice_get, Option, None}
use Rattle.std.specs.Option.{option_map}
use Rattle.factors.specs.declared.Factors.{Factors}
use Rattle.factors.specs.declared.Table.{Table}
use Rattle.factors.specs.declared.Table.TheVariants.{Section1995, Section2008, Scheme2015, NoTable}
use Rattle.factors.specs.Rows.{four_columns, two_columns}

-- Table TV1 of 001, by age from 22: A pension, B lump sum, C survivor, E deduction.
-- 001's text names 20 as the first age, its table 22: the table decides. TV2 repeats these figures, as the factors are
-- unisex, and is not a second table.
unfoldable pub section1995_table : List (List ℕ)
section1995_table =
    (893 ∷ 41 ∷ 84 ∷ 518 ∷ []) ∷
    (913 ∷ 42 ∷ 86 ∷ 532 ∷ []) ∷
    (933 ∷ 43 ∷ 88 ∷ 546 ∷ []) ∷
    (953 ∷ 44 ∷ 91 ∷ 561 ∷ []) ∷
    (974 ∷ 45 ∷ 93 ∷ 577 ∷ []) ∷
    (995 ∷ 46 ∷ 95 ∷ 592 ∷ []) ∷
    (1016 ∷ 47 ∷ 97 ∷ 608 ∷ []) ∷
    (1038 ∷ 49 ∷ 99 ∷ 625 ∷ []) ∷
    (1061 ∷ 50 ∷ 101 ∷ 642 ∷ []) ∷
    (1084 ∷ 51 ∷ 104 ∷ 660 ∷ []) ∷
    (1108 ∷ 52 ∷ 106 ∷ 678 ∷ []) ∷
    (1132 ∷ 53 ∷ 108 ∷ 696 ∷ []) ∷
    (1157 ∷ 55 ∷ 110 ∷ 715 ∷ []) ∷
    (1182 ∷ 56 ∷ 113 ∷ 735 ∷ []) ∷
    (1208 ∷ 57 ∷ 115 ∷ 755 ∷ []) ∷
    (1234 ∷ 59 ∷ 117 ∷ 776 ∷ []) ∷
    (1262 ∷ 60 ∷ 119 ∷ 797 ∷ []) ∷
    (1290 ∷ 62 ∷ 121 ∷ 819 ∷ []) ∷
    (1318 ∷ 63 ∷ 124 ∷ 842 ∷ []) ∷
    (1347 ∷ 64 ∷ 126 ∷ 865 ∷ []) ∷
    (1377 ∷ 66 ∷ 128 ∷ 890 ∷ []) ∷
    (1408 ∷ 68 ∷ 130 ∷ 914 ∷ []) ∷
    (1440 ∷ 69 ∷ 132 ∷ 940 ∷ []) ∷
    (1472 ∷ 71 ∷ 134 ∷ 966 ∷ []) ∷
    (1505 ∷ 73 ∷ 136 ∷ 993 ∷ []) ∷
    (1539 ∷ 74 ∷ 138 ∷ 1021 ∷ []) ∷
    (1574 ∷ 76 ∷ 140 ∷ 1049 ∷ []) ∷
    (1610 ∷ 78 ∷ 141 ∷ 1079 ∷ []) ∷
    (1647 ∷ 80 ∷ 143 ∷ 1109 ∷ []) ∷
    (1685 ∷ 82 ∷ 145 ∷ 1141 ∷ []) ∷
    (1724 ∷ 84 ∷ 147 ∷ 1173 ∷ []) ∷
    (1764 ∷ 86 ∷ 148 ∷ 1207 ∷ []) ∷
    (1805 ∷ 88 ∷ 150 ∷ 1242 ∷ []) ∷
    (1848 ∷ 90 ∷ 151 ∷ 1278 ∷ []) ∷
    (1892 ∷ 92 ∷ 152 ∷ 1316 ∷ []) ∷
    (1938 ∷ 94 ∷ 153 ∷ 1354 ∷ []) ∷
    (1985 ∷ 97 ∷ 154 ∷ 1395 ∷ []) ∷
    (2034 ∷ 99 ∷ 154 ∷ 1437 ∷ []) ∷ []

-- Table TV3 of 001, men of the 2008 section, by age from 18: A pension, B lump sum, C survivor, E deduction.
unfoldable pub section2008_men_table : List (List ℕ)
section2008_men_table =
    (650 ∷ 33 ∷ 76 ∷ 465 ∷ []) ∷
    (664 ∷ 34 ∷ 80 ∷ 478 ∷ []) ∷
    (678 ∷ 35 ∷ 82 ∷ 491 ∷ []) ∷
    (693 ∷ 36 ∷ 84 ∷ 504 ∷ []) ∷
    (707 ∷ 36 ∷ 86 ∷ 518 ∷ []) ∷
    (722 ∷ 37 ∷ 88 ∷ 532 ∷ []) ∷
    (738 ∷ 38 ∷ 90 ∷ 546 ∷ []) ∷
    (753 ∷ 39 ∷ 92 ∷ 561 ∷ []) ∷
    (769 ∷ 40 ∷ 94 ∷ 577 ∷ []) ∷
    (785 ∷ 41 ∷ 96 ∷ 592 ∷ []) ∷
    (802 ∷ 42 ∷ 99 ∷ 608 ∷ []) ∷
    (819 ∷ 43 ∷ 101 ∷ 625 ∷ []) ∷
    (836 ∷ 44 ∷ 103 ∷ 642 ∷ []) ∷
    (854 ∷ 45 ∷ 105 ∷ 660 ∷ []) ∷
    (872 ∷ 46 ∷ 108 ∷ 678 ∷ []) ∷
    (891 ∷ 47 ∷ 110 ∷ 696 ∷ []) ∷
    (910 ∷ 49 ∷ 112 ∷ 715 ∷ []) ∷
    (929 ∷ 50 ∷ 115 ∷ 735 ∷ []) ∷
    (949 ∷ 51 ∷ 117 ∷ 755 ∷ []) ∷
    (970 ∷ 52 ∷ 119 ∷ 776 ∷ []) ∷
    (990 ∷ 53 ∷ 121 ∷ 797 ∷ []) ∷
    (1012 ∷ 55 ∷ 124 ∷ 819 ∷ []) ∷
    (1034 ∷ 56 ∷ 126 ∷ 842 ∷ []) ∷
    (1056 ∷ 57 ∷ 128 ∷ 865 ∷ []) ∷
    (1079 ∷ 59 ∷ 130 ∷ 890 ∷ []) ∷
    (1102 ∷ 60 ∷ 132 ∷ 914 ∷ []) ∷
    (1126 ∷ 62 ∷ 134 ∷ 940 ∷ []) ∷
    (1151 ∷ 63 ∷ 137 ∷ 966 ∷ []) ∷
    (1176 ∷ 64 ∷ 139 ∷ 993 ∷ []) ∷
    (1202 ∷ 66 ∷ 141 ∷ 1021 ∷ []) ∷
    (1229 ∷ 68 ∷ 143 ∷ 1049 ∷ []) ∷
    (1256 ∷ 69 ∷ 145 ∷ 1079 ∷ []) ∷
    (1284 ∷ 71 ∷ 146 ∷ 1109 ∷ []) ∷
    (1313 ∷ 73 ∷ 148 ∷ 1141 ∷ []) ∷
    (1342 ∷ 74 ∷ 150 ∷ 1173 ∷ []) ∷
    (1373 ∷ 76 ∷ 152 ∷ 1207 ∷ []) ∷
    (1404 ∷ 78 ∷ 153 ∷ 1242 ∷ []) ∷
    (1437 ∷ 80 ∷ 154 ∷ 1278 ∷ []) ∷
    (1470 ∷ 82 ∷ 156 ∷ 1316 ∷ []) ∷
    (1504 ∷ 84 ∷ 157 ∷ 1354 ∷ []) ∷
    (1540 ∷ 86 ∷ 158 ∷ 1395 ∷ []) ∷
    (1577 ∷ 88 ∷ 158 ∷ 1437 ∷ []) ∷
    (1615 ∷ 90 ∷ 159 ∷ 1480 ∷ []) ∷
    (1655 ∷ 92 ∷ 159 ∷ 1526 ∷ []) ∷
    (1696 ∷ 94 ∷ 159 ∷ 1573 ∷ []) ∷
    (1739 ∷ 97 ∷ 159 ∷ 1623 ∷ []) ∷
    (1783 ∷ 99 ∷ 159 ∷ 1674 ∷ []) ∷ []

-- Table TV4 of 001, women of the 2008 section, which is printed in two parts. By age from 18 to 59: A pension, B lump sum,
-- C survivor, E deduction.
unfoldable pub section2008_women_below60_table : List (List ℕ)
section2008_women_below60_table =
    (650 ∷ 33 ∷ 76 ∷ 465 ∷ []) ∷
    (664 ∷ 34 ∷ 80 ∷ 478 ∷ []) ∷
    (678 ∷ 35 ∷ 82 ∷ 491 ∷ []) ∷
    (693 ∷ 36 ∷ 84 ∷ 504 ∷ []) ∷
    (707 ∷ 36 ∷ 86 ∷ 518 ∷ []) ∷
    (722 ∷ 37 ∷ 88 ∷ 532 ∷ []) ∷
    (738 ∷ 38 ∷ 90 ∷ 546 ∷ []) ∷
    (753 ∷ 39 ∷ 92 ∷ 561 ∷ []) ∷
    (769 ∷ 40 ∷ 94 ∷ 577 ∷ []) ∷
    (785 ∷ 41 ∷ 96 ∷ 592 ∷ []) ∷
    (802 ∷ 42 ∷ 99 ∷ 608 ∷ []) ∷
    (819 ∷ 43 ∷ 101 ∷ 625 ∷ []) ∷
    (836 ∷ 44 ∷ 103 ∷ 642 ∷ []) ∷
    (854 ∷ 45 ∷ 105 ∷ 660 ∷ []) ∷
    (872 ∷ 46 ∷ 108 ∷ 678 ∷ []) ∷
    (891 ∷ 47 ∷ 110 ∷ 696 ∷ []) ∷
    (910 ∷ 49 ∷ 112 ∷ 715 ∷ []) ∷
    (929 ∷ 50 ∷ 115 ∷ 735 ∷ []) ∷
    (949 ∷ 51 ∷ 117 ∷ 755 ∷ []) ∷
    (970 ∷ 52 ∷ 119 ∷ 776 ∷ []) ∷
    (990 ∷ 53 ∷ 121 ∷ 797 ∷ []) ∷
    (1012 ∷ 55 ∷ 124 ∷ 819 ∷ []) ∷
    (1034 ∷ 56 ∷ 126 ∷ 842 ∷ []) ∷
    (1056 ∷ 57 ∷ 128 ∷ 865 ∷ []) ∷
    (1079 ∷ 59 ∷ 130 ∷ 890 ∷ []) ∷
    (1102 ∷ 60 ∷ 132 ∷ 914 ∷ []) ∷
    (1126 ∷ 62 ∷ 134 ∷ 940 ∷ []) ∷
    (1151 ∷ 63 ∷ 137 ∷ 966 ∷ []) ∷
    (1176 ∷ 64 ∷ 139 ∷ 993 ∷ []) ∷
    (1202 ∷ 66 ∷ 141 ∷ 1021 ∷ []) ∷
    (1229 ∷ 68 ∷ 143 ∷ 1049 ∷ []) ∷
    (1256 ∷ 69 ∷ 145 ∷ 1079 ∷ []) ∷
    (1284 ∷ 71 ∷ 146 ∷ 1109 ∷ []) ∷
    (1313 ∷ 73 ∷ 148 ∷ 1141 ∷ []) ∷
    (1342 ∷ 74 ∷ 150 ∷ 1173 ∷ []) ∷
    (1373 ∷ 76 ∷ 152 ∷ 1207 ∷ []) ∷
    (1404 ∷ 78 ∷ 153 ∷ 1242 ∷ []) ∷
    (1437 ∷ 80 ∷ 154 ∷ 1278 ∷ []) ∷
    (1470 ∷ 82 ∷ 156 ∷ 1316 ∷ []) ∷
    (1504 ∷ 84 ∷ 157 ∷ 1354 ∷ []) ∷
    (1540 ∷ 86 ∷ 158 ∷ 1395 ∷ []) ∷
    (1577 ∷ 88 ∷ 158 ∷ 1437 ∷ []) ∷ []

-- The second part of TV4, by age from 60: A pension, B lump sum, C survivor, F deduction.
unfoldable pub section2008_women_from60_table : List (List ℕ)
section2008_women_from60_table =
    (1615 ∷ 90 ∷ 159 ∷ 1480 ∷ []) ∷
    (1655 ∷ 92 ∷ 159 ∷ 1526 ∷ []) ∷
    (1696 ∷ 94 ∷ 159 ∷ 1573 ∷ []) ∷
    (1739 ∷ 97 ∷ 159 ∷ 1623 ∷ []) ∷
    (1783 ∷ 99 ∷ 159 ∷ 1674 ∷ []) ∷ []

-- Table TV1 of 003, by years ahead from 1: A pension, B survivor.
unfoldable pub scheme2015_table : List (List ℕ)
scheme2015_table =
    (1708 ∷ 160 ∷ []) ∷
    (1665 ∷ 160 ∷ []) ∷
    (1624 ∷ 160 ∷ []) ∷
    (1572 ∷ 161 ∷ []) ∷
    (1522 ∷ 161 ∷ []) ∷
    (1474 ∷ 161 ∷ []) ∷
    (1427 ∷ 161 ∷ []) ∷
    (1394 ∷ 160 ∷ []) ∷
    (1362 ∷ 159 ∷ []) ∷
    (1331 ∷ 158 ∷ []) ∷
    (1301 ∷ 157 ∷ []) ∷
    (1272 ∷ 156 ∷ []) ∷
    (1244 ∷ 154 ∷ []) ∷
    (1217 ∷ 152 ∷ []) ∷
    (1190 ∷ 151 ∷ []) ∷
    (1164 ∷ 149 ∷ []) ∷
    (1139 ∷ 147 ∷ []) ∷
    (1115 ∷ 145 ∷ []) ∷
    (1091 ∷ 143 ∷ []) ∷
    (1068 ∷ 141 ∷ []) ∷
    (1045 ∷ 139 ∷ []) ∷
    (1014 ∷ 138 ∷ []) ∷
    (984 ∷ 136 ∷ []) ∷
    (955 ∷ 135 ∷ []) ∷
    (927 ∷ 133 ∷ []) ∷
    (908 ∷ 131 ∷ []) ∷
    (889 ∷ 129 ∷ []) ∷
    (871 ∷ 127 ∷ []) ∷
    (853 ∷ 125 ∷ []) ∷
    (835 ∷ 122 ∷ []) ∷
    (818 ∷ 120 ∷ []) ∷
    (801 ∷ 118 ∷ []) ∷
    (785 ∷ 115 ∷ []) ∷
    (769 ∷ 113 ∷ []) ∷
    (753 ∷ 110 ∷ []) ∷
    (737 ∷ 108 ∷ []) ∷
    (722 ∷ 106 ∷ []) ∷
    (708 ∷ 103 ∷ []) ∷
    (693 ∷ 101 ∷ []) ∷
    (679 ∷ 99 ∷ []) ∷
    (665 ∷ 97 ∷ []) ∷
    (652 ∷ 94 ∷ []) ∷
    (639 ∷ 92 ∷ []) ∷
    (626 ∷ 90 ∷ []) ∷
    (613 ∷ 88 ∷ []) ∷
    (600 ∷ 86 ∷ []) ∷
    (588 ∷ 84 ∷ []) ∷
    (576 ∷ 82 ∷ []) ∷
    (564 ∷ 80 ∷ []) ∷
    (553 ∷ 75 ∷ []) ∷ []

-- The row for a key of a table whose first row is for the key `first`, and each next row for the next key. There is none below the
-- first nor past the last.
abbrev pub row_for : ℕ → List (List ℕ) → ℕ → Option (List ℕ)
row_for first table key = if leb first key then slice_get table (key - first) else None

-- the factors of that row; `columns` says which factor each column is
unfoldable pub row_at : (List ℕ → Factors) → ℕ → List (List ℕ) → ℕ → Option Factors
row_at columns first table key = option_map columns (row_for first table key)

-- the row for a woman of the 2008 section, in the part of TV4 that her age is in
unfoldable pub section2008_women_row : ℕ → Option Factors
section2008_women_row age =
    if nat_lt age 60 then row_at four_columns 18 section2008_women_below60_table age
    else row_at four_columns 60 section2008_women_from60_table age

-- the row of a table, for an age or for years ahead, whichever the table goes by; the 2008 section has one for each sex, where 2 is
-- female
unfoldable pub row_in : Table → ℕ → ℕ → ℕ → Option Factors
row_in Section1995 sex age ahead = row_at four_columns 22 section1995_table age
row_in Section2008 sex age ahead = if sex == 2 then section2008_women_row age else row_at four_columns 18 section2008_men_table age
row_in Scheme2015 sex age ahead = row_at two_columns 1 scheme2015_table ahead
row_in NoTable sex age ahead = None
