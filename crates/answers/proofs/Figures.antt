-- The figures at the edges, those of the exact value, of the comparison's bound and of outcomes in numbers: every row, by computing the
-- definitions.
-- Assumes nothing.
use Rattle.std.proofs.Common.{ℕ, ◌≤◌, [], ◌∷◌, map, ◌≡◌, refl, arith}
use Rattle.numbers.specs.Rounding.{nearest, Within}
use Rattle.numbers.specs.Below.{sum_below, any_below, how_many, fewest}
use Rattle.calendar.specs.Dates.{days_in, is_real}
use Rattle.calendar.specs.Moving.{in_year, age, years_ahead}
use Rattle.cases.specs.Entries.{line_by}
use Rattle.cases.specs.Kinds.{rules_of}
use Rattle.cases.specs.Form.{kind_fault, line_filled, reserved_filled, line_reserved_fault, head_reserved_fault, reserved_fault, line_range_fault, dates_range_fault, head_range_fault, range_fault}
use Rattle.factors.specs.Tables.{section1995_table, scheme2015_table, row_at, row_in}
use Rattle.sums.specs.Rows.{row_of, factors_of}
use Rattle.sums.specs.Sum.{member_pension, valued_on, deduction, credit, negative_fault, first_value, debit_value, award_fault, gross_by, scheme_pays_fault}
use Rattle.sums.specs.Exact.{exact_added, exact_scheme_pays, exact_debit, factors_on}
use Rattle.sums.specs.Payment.{underpin, payment}
use Rattle.answers.specs.Answer.{factor_fault, tests, gross_of, items_of, answer_of}
use Rattle.cases.specs.Layout.{pension, lump, survivor}
use Rattle.cases.specs.declared.Case.{Case}
use Rattle.answers.specs.Compare.{adds, near_bound, Compared}
use Rattle.answers.specs.Figures.{◌of◌, aged54_at, aged54, figures, outcome_figures}
use Rattle.answers.specs.ExactFigures.{exact_figures}

-- two cases compared by the pension of line 1, of which the second has so many pence more
abbrev by_pension : Case → Case → ℕ → Type 0
by_pension c d extra = Compared (adds member_pension 0) c (answer_of c) d (answer_of d) extra

-- every row of each table, and the comparison at the edge of its bound
record Worked : Type 0 where
  edges : map (λ r. r.worked) figures ≡ map (λ r. r.stated) figures
  exact : map (λ r. r.worked) exact_figures ≡ map (λ r. r.stated) exact_figures
  outcomes : map (λ r. r.worked) outcome_figures ≡ map (λ r. r.stated) outcome_figures
  product_near : by_pension (aged54_at 10554 []) (aged54_at 10554 []) 1
  product_far : by_pension (aged54_at 10555 []) (aged54_at 10555 []) 1 → ⊥
  value_near : by_pension (aged54 []) (aged54 (1 of pension ∷ 1 of lump ∷ [])) 0
  value_far : by_pension (aged54 []) (aged54 (1 of pension ∷ 1 of survivor ∷ [])) 0 → ⊥

worked : Worked
unfolding nearest sum_below any_below how_many fewest days_in is_real in_year age years_ahead line_by rules_of kind_fault line_filled reserved_filled line_reserved_fault head_reserved_fault reserved_fault line_range_fault dates_range_fault head_range_fault range_fault section1995_table scheme2015_table row_at row_in row_of factors_of valued_on deduction credit negative_fault first_value debit_value award_fault gross_by scheme_pays_fault exact_added exact_scheme_pays exact_debit factors_on underpin payment factor_fault tests gross_of items_of answer_of
worked = record {
  edges = refl;
  exact = refl;
  outcomes = refl;
  product_near = (omega arith, omega arith);
  product_far = λ w. let h : 19051775 ≤ 19050000 = w.1.1 in omega (arith, h);
  value_near = (omega arith, omega arith);
  value_far = λ w. let h : 20000000 ≤ 19050000 = w.1.0 in omega (arith, h);
}

pub figures_hold : map (λ r. r.worked) figures ≡ map (λ r. r.stated) figures
figures_hold = worked.edges

pub exact_figures_hold : map (λ r. r.worked) exact_figures ≡ map (λ r. r.stated) exact_figures
exact_figures_hold = worked.exact

pub outcome_figures_hold : map (λ r. r.worked) outcome_figures ≡ map (λ r. r.stated) outcome_figures
outcome_figures_hold = worked.outcomes

-- where the factor is 18.05 the bound of the comparison is 19.05p, and what lies one millionth of a penny further apart is not within it
pub near_bound_at_54 : (near_bound 1805 ≡ 19050000) × (Within (near_bound 1805) 19050001 0 → ⊥) × (Within (near_bound 1805) 0 19050001 → ⊥)
near_bound_at_54 = (refl, (λ w. omega (arith, w.0)), (λ w. omega (arith, w.1)))

-- a penny at 18.05 comes to 19.04997p at revaluation 1.0554, and nothing paid for it is near; to 19.051775p at 1.0555, and nothing is
-- not. For nothing entered 19p are near, and 20p are not
pub compared_at_54 :
    (by_pension (aged54_at 10554 []) (aged54_at 10554 []) 1 × (by_pension (aged54_at 10555 []) (aged54_at 10555 []) 1 → ⊥)) ×
    (by_pension (aged54 []) (aged54 (1 of pension ∷ 1 of lump ∷ [])) 0 × (by_pension (aged54 []) (aged54 (1 of pension ∷ 1 of survivor ∷ [])) 0 → ⊥))
compared_at_54 = ((worked.product_near, worked.product_far), (worked.value_near, worked.value_far))
