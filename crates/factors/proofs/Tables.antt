-- The tables' counts and ranges: one test that antt computes over a whole table, and what follows of every row found.
-- Assumes nothing.
use Rattle.std.proofs.Common.{ℕ, zero, suc, ◌+◌, ◌-◌, ◌≤◌, ◌<◌, arith, Bool, true, false, ◌&&◌, if◌then◌else◌, List, [], ◌∷◌, slice_get, Option, Some, None, ◌≡◌, refl, sym, eqb, leb, length, get_or, ◌++◌, ltb, cond, ap, le-leb, leb-true}
use Rattle.std.proofs.Math.Bool.{and-eq-true_iff}
use Rattle.std.proofs.Math.Nat.{sub-zero}
use Rattle.std.proofs.lemmas.Bool.{lt-leb, ltb-true, ltb-false}
use Rattle.std.proofs.lemmas.Option.{get_or_from_slice_get, slice_get-get_or, slice_get_past, slice_get_within}
use Rattle.std.specs.Option.{option_map}
use Rattle.std.specs.List.{list_all}
use Rattle.numbers.proofs.Lists.{every_at}
use Rattle.factors.specs.declared.Factors.{Factors}
use Rattle.factors.specs.declared.Table.{Table}
use Rattle.factors.specs.declared.Table.TheVariants.{Section1995, Section2008, Scheme2015, NoTable}
use Rattle.factors.specs.Rows.{four_columns, two_columns, found, row_numbers, Small}
use Rattle.factors.specs.Tables.{section1995_table, section2008_men_table, section2008_women_below60_table, section2008_women_from60_table, scheme2015_table, row_at, row_for, section2008_women_row, row_in}

abbrev in_range : ℕ → Bool
in_range n = leb 1 n && leb n 9999

-- a row of so many numbers, each from 0.01 to 99.99
abbrev row_fits : ℕ → List ℕ → Bool
row_fits width row = eqb (length row) width && list_all in_range row

-- so many rows, each of so many numbers in range
abbrev fits : ℕ → ℕ → List (List ℕ) → Bool
fits rows width table = eqb (length table) rows && list_all (row_fits width) table

-- a number of a table that fits, and 0 outside the table, is at most 9999
in_table : (rows width : ℕ) (table : List (List ℕ)) → fits rows width table ≡ true → (i j : ℕ) → get_or (get_or table i []) j 0 ≤ 9999
in_table rows width table fit =
    every_at (row_fits width) table [] in_row (λ j. omega arith) ((and-eq-true_iff (eqb (length table) rows) (list_all (row_fits width) table)).0 fit).1
  where
    at_most : (n : ℕ) → in_range n ≡ true → n ≤ 9999
    at_most n h = leb-true n 9999 ((and-eq-true_iff (leb 1 n) (leb n 9999)).0 h).1

    in_row : (row : List ℕ) → row_fits width row ≡ true → (j : ℕ) → get_or row j 0 ≤ 9999
    in_row row h = every_at in_range row 0 at_most (omega arith) ((and-eq-true_iff (eqb (length row) width) (list_all in_range row)).0 h).1

-- what a table that fits finds is small, where a row's factors are numbers of the row or 0
found_small :
    (columns : List ℕ → Factors) → ((row : List ℕ) → ((j : ℕ) → get_or row j 0 ≤ 9999) → Small (columns row)) →
    (first rows width : ℕ) (table : List (List ℕ)) → fits rows width table ≡ true → (key : ℕ) → Small (found (row_at columns first table key))
unfolding row_at
found_small columns small first rows width table fit key = by_key (leb first key)
  where
    by_row : (row : Option (List ℕ)) → row ≡ slice_get table (key - first) → Small (found (option_map columns row))
    by_row None e = omega arith
    by_row (Some row) e =
        small row (λ j. rw (get_or_from_slice_get table (key - first) row [] (sym e)) at (in_table rows width table fit (key - first) j))

    by_key : (within : Bool) → Small (found (option_map columns (if within then slice_get table (key - first) else None)))
    by_key true = by_row (slice_get table (key - first)) refl
    by_key false = omega arith

-- a key within the table finds its row; one below the first, or past the last, none. No proof cites these four laws; docs/PORT.md names
-- the first three.
module _ (columns : List ℕ → Factors) (first : ℕ) (table : List (List ℕ)) (key : ℕ) where
  pub row_within : {f : Factors} → first ≤ key → key - first < length table → f ≡ columns (get_or table (key - first) []) → Some f ≡ row_at columns first table key
  unfolding row_at
  row_within p q e = rw (le-leb first key p, slice_get-get_or table (key - first) [] q, e)

  pub row_below : key < first → None ≡ row_at columns first table key
  unfolding row_at
  row_below p = rw (lt-leb first key p)

  pub row_past : first ≤ key → length table ≤ key - first → None ≡ row_at columns first table key
  unfolding row_at
  row_past p q = rw (le-leb first key p, slice_get_past table (key - first) q)

  -- so a row is found by its place in the table
  pub row_by_place : row_at columns first table key ≡ cond (leb first key && ltb (key - first) (length table)) (Some (columns (get_or table (key - first) []))) None
  unfolding row_at
  row_by_place = by_key (leb first key)
    where
      by_place :
          (row : Option (List ℕ)) (within : Bool) → slice_get table (key - first) ≡ row → ltb (key - first) (length table) ≡ within →
          option_map columns row ≡ cond within (Some (columns (get_or table (key - first) []))) None
      by_place None false e h = refl
      by_place None true e h = cc (e, slice_get-get_or table (key - first) [] (ltb-true (key - first) (length table) h))
      by_place (Some row) true e h = rw (get_or_from_slice_get table (key - first) row [] e)
      by_place (Some row) false e h = absurd (omega (arith, slice_get_within table (key - first) row e, ltb-false (key - first) (length table) h))

      by_key :
          (within : Bool) → option_map columns (if within then slice_get table (key - first) else None) ≡ cond (within && ltb (key - first) (length table)) (Some (columns (get_or table (key - first) []))) None
      by_key true = by_place (slice_get table (key - first)) (ltb (key - first) (length table)) refl refl
      by_key false = refl

small_four : (row : List ℕ) → ((j : ℕ) → get_or row j 0 ≤ 9999) → Small (four_columns row)
small_four row at = omega (arith, at 0, at 1, at 2, at 3)

small_two : (row : List ℕ) → ((j : ℕ) → get_or row j 0 ≤ 9999) → Small (two_columns row)
small_two row at = omega (arith, at 0, at 1)

-- of two lists one after the other, what stands in the first and what stands in the second
slice_get_front : {A : Type 0} (xs ys : List A) (i : ℕ) → i < length xs → slice_get (xs ++ ys) i ≡ slice_get xs i
slice_get_front [] ys i h = absurd (omega arith)
slice_get_front (x ∷ xs) ys zero h = refl
slice_get_front (x ∷ xs) ys (suc i) h = slice_get_front xs ys i (omega arith)

slice_get_back : {A : Type 0} (xs ys : List A) (i : ℕ) → length xs ≤ i → slice_get (xs ++ ys) i ≡ slice_get ys (i - length xs)
slice_get_back [] ys i h = rw (sub-zero i)
slice_get_back (x ∷ xs) ys zero h = absurd (omega arith)
slice_get_back (x ∷ xs) ys (suc i) h = let e : suc i - suc (length xs) ≡ i - length xs = omega arith in rw (e, slice_get_back xs ys i (omega arith))

-- a table in two parts finds the rows of the one that they make
row_in_parts :
    (columns : List ℕ → Factors) (first : ℕ) (a b : List (List ℕ)) (key : ℕ) →
    (if ltb key (first + length a) then row_at columns first a key else row_at columns (first + length a) b key) ≡ row_at columns first (a ++ b) key
unfolding row_at
row_in_parts columns first a b key = by_part (ltb key (first + length a)) refl
  where
    by_part :
        (front : Bool) → ltb key (first + length a) ≡ front →
        (if front then option_map columns (row_for first a key) else option_map columns (row_for (first + length a) b key)) ≡
        option_map columns (row_for first (a ++ b) key)
    by_part true e = by_key (leb first key) refl
      where
        by_key :
            (within : Bool) → leb first key ≡ within →
            option_map columns (if within then slice_get a (key - first) else None) ≡ option_map columns (if within then slice_get (a ++ b) (key - first) else None)
        by_key true h = rw (slice_get_front a b (key - first) (omega (arith, ltb-true, leb-true)))
        by_key false h = refl
    by_part false e =
        let past : first + length a ≤ key = omega (arith, ltb-false) in
        let place : key - first - length a ≡ key - (first + length a) = omega arith in
        rw (le-leb (first + length a) key past, le-leb first key (omega arith), slice_get_back a b (key - first) (omega arith), place)

-- TV4 repeats the figures of TV3
pub women_as_men : (age : ℕ) → section2008_women_row age ≡ row_at four_columns 18 section2008_men_table age
unfolding section2008_women_row section2008_men_table section2008_women_below60_table section2008_women_from60_table
women_as_men = row_in_parts four_columns 18 section2008_women_below60_table section2008_women_from60_table

-- so one row stands for both sexes
pub either_sex : (sex age ahead : ℕ) → row_in Section2008 sex age ahead ≡ row_at four_columns 18 section2008_men_table age
unfolding row_in
either_sex sex age ahead = go (eqb sex 2)
  where
    go : (woman : Bool) → (if woman then section2008_women_row age else row_at four_columns 18 section2008_men_table age) ≡ row_at four_columns 18 section2008_men_table age
    go true = women_as_men age
    go false = refl

-- each table has the rows that its note has, and whatever is found in it is small
pub small_row : (t : Table) (sex age ahead : ℕ) → Small (found (row_in t sex age ahead))
unfolding section1995_table section2008_men_table scheme2015_table row_in
small_row Section1995 sex age ahead = found_small four_columns small_four 22 38 4 section1995_table refl age
small_row Section2008 sex age ahead = rw (either_sex sex age ahead) (found_small four_columns small_four 18 47 4 section2008_men_table refl age)
small_row Scheme2015 sex age ahead = found_small two_columns small_two 1 50 2 scheme2015_table refl ahead
small_row NoTable sex age ahead = omega arith

-- rows that are the same are so in numbers; no proof cites it, docs/PORT.md names it
pub and_numbers : {r s : Option Factors} → r ≡ s → (r ≡ s) × (row_numbers r ≡ row_numbers s)
and_numbers e = (e, ap row_numbers e)
