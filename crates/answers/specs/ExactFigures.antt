-- Figures of the exact value: what the definitions work out beside what is worked out by hand.
-- Assumes nothing.
use Rattle.std.specs.Prelude.{List, [], ◌∷◌}
use Rattle.cases.specs.Layout.{pension, survivor, lump, scheme_pays, debit_pension, debit_survivor, debit_lump}
use Rattle.cases.specs.declared.Case.{Case}
use Rattle.sums.specs.Rows.{factors_of}
use Rattle.sums.specs.Exact.{exact_added, exact_taken, exact_bound}
use Rattle.answers.specs.Figures.{Shown, number, paid, answered, ◌of◌, aged54_at, example_a, example_c, Figure, ◌is◌}

-- of a case, in millionths of a penny, what is added to its exact value, what is taken off, and the bound; then valuing's answer
abbrev pub exact_shown : Case → List Shown
exact_shown c =
    number (exact_added (factors_of c) c) ∷ number (exact_taken (factors_of c) c) ∷ number (exact_bound (factors_of c) c) ∷ answered c ∷ []

-- 1.5p of pension is rounded up to 2p, and Scheme Pays takes all of it off: the gross value is 0 and the exact value is below zero
abbrev pub below_zero : Case
below_zero = aged54_at 15000 (1 of pension ∷ 2 of scheme_pays ∷ [])

-- each benefit is rounded up by half a penny and each divorce debit down by nearly as much, then the first value up and the debit
-- value down: the gross value lies 21.417957p above the exact value, where the bound is 21.43p
abbrev pub near_the_bound : Case
near_the_bound =
    aged54_at 10039
    (25000 of pension ∷ 5000 of lump ∷ 5000 of survivor ∷ 641 of debit_pension ∷ 641 of debit_lump ∷ 641 of debit_survivor ∷ [])

abbrev pub exact_figures : List Figure
exact_figures =
    (exact_shown example_a is number 13710352500000 ∷ number 23460000000 ∷ number 10775000 ∷ paid 13686893 13686893 ∷ []) ∷
    (exact_shown example_c is number 6314918400000 ∷ number 0 ∷ number 10125000 ∷ paid 6314918 6314918 ∷ []) ∷
    (exact_shown below_zero is number 27075000 ∷ number 36100000 ∷ number 10025000 ∷ paid 0 0 ∷ []) ∷
    (exact_shown near_the_bound is number 464956285000 ∷ number 13146702957 ∷ number 21430000 ∷ paid 451831 451831 ∷ []) ∷ []
