-- What the code carries from line to line on its way to the sum. No promise of a public function speaks of these.
-- Assumes nothing.
use Rattle.std.specs.Prelude.{ℕ, ◌+◌, ◌-◌, ◌*◌, ◌≤◌, Bool, ◌||◌, Option, ◌≡◌, Result, Ok, Err, cond, ltb}
use Rattle.refusals.specs.declared.Refusal.{Refusal}
use Rattle.refusals.specs.declared.Refusal.TheVariants.{Negative, Award}
use Rattle.numbers.specs.Below.{sum_below, any_below}
use Rattle.numbers.specs.Lists.{Each}
use Rattle.cases.specs.Layout.{amounts}
use Rattle.cases.specs.Entries.{line, amount_in}
use Rattle.cases.specs.declared.Line.{Line}
use Rattle.cases.specs.declared.Case.{Case}
use Rattle.factors.specs.Rows.{absent, found}
use Rattle.factors.specs.declared.Factors.{Factors}
use Rattle.sums.specs.Rows.{row_of, factors_of}
use Rattle.sums.specs.Sum.{Benefit, member_pension, lump_sum, survivor_pension, reduced, revalued_debit, valued_at, deduction_at, over_benefits, scheme_pays_exceeds, negative_fault, award_fault}
use Rattle.valuing.specs.declared.sum.Totals.{Totals}

-- the amounts of a line are in their range
abbrev pub LineInRange : Line → Type 0
LineInRange l = Each amounts (λ a. amount_in a l ≤ 1000000000)

-- so are those before the lines, and the revaluation factor
pub record HeadInRange (c : Case) : Type 0 where
  pub revaluation : c.revaluation ≤ 100000
  pub avc : c.avc ≤ 1000000000
  pub transfer : c.transfer ≤ 1000000000
  pub contributions : c.contributions ≤ 1000000000

-- no amount of some totals is above n, but the divorce debit, which is the sum of three, may go to 3 * n
pub record Bounded (n : ℕ) (t : Totals) : Type 0 where
  pub pension : t.pension ≤ n
  pub lump : t.lump ≤ n
  pub survivor : t.survivor ≤ n
  pub deduction : t.deduction ≤ n
  pub debit : t.debit ≤ 3 * n

-- what a line's divorce debit comes to
abbrev pub debit_at : ℕ → Factors → Line → ℕ
debit_at v f l = over_benefits (valued_at f (revalued_debit v l))

-- the totals of one line
pub record TotalsAt (v : ℕ) (f : Factors) (l : Line) (missing : Bool) (t : Totals) : Type 0 where
  pub pension : t.pension ≡ valued_at f (reduced v l) member_pension
  pub lump : t.lump ≡ valued_at f (reduced v l) lump_sum
  pub survivor : t.survivor ≡ valued_at f (reduced v l) survivor_pension
  pub deduction : t.deduction ≡ deduction_at f l
  pub debit : t.debit ≡ debit_at v f l
  pub absent : t.absent ≡ missing
  pub excess : t.excess ≡ scheme_pays_exceeds v l
  pub bounded : Bounded 200000000000000 t

-- the same by the line's row: its factors, and whether it is absent
abbrev pub TotalsBy : Option Factors → ℕ → Line → Totals → Type 0
TotalsBy row v l t = TotalsAt v (found row) l (absent row) t

abbrev pub plus_totals : Totals → Totals → Totals
plus_totals a b =
    record {
      pension = a.pension + b.pension;
      lump = a.lump + b.lump;
      survivor = a.survivor + b.survivor;
      deduction = a.deduction + b.deduction;
      debit = a.debit + b.debit;
      absent = a.absent || b.absent;
      excess = a.excess || b.excess;
    }

-- amounts of the lines below n, valued as `valued_on` values those of all lines
abbrev pub valued_below : ℕ → Case → (ℕ → Line → Benefit → ℕ) → Benefit → ℕ
valued_below n c amount b = sum_below n (λ i. valued_at (factors_of c i) (amount c.revaluation (line c i)) b)

-- the totals of the lines below n
pub record TotalsBelow (c : Case) (n : ℕ) (t : Totals) : Type 0 where
  pub pension : t.pension ≡ valued_below n c reduced member_pension
  pub lump : t.lump ≡ valued_below n c reduced lump_sum
  pub survivor : t.survivor ≡ valued_below n c reduced survivor_pension
  pub deduction : t.deduction ≡ sum_below n (λ i. deduction_at (factors_of c i) (line c i))
  pub debit : t.debit ≡ over_benefits (valued_below n c revalued_debit)
  pub missing : t.absent ≡ any_below n (λ i. absent (row_of c i))
  pub excess : t.excess ≡ any_below n (λ i. scheme_pays_exceeds c.revaluation (line c i))
  pub bounded : Bounded (n * 200000000000000) t

-- r, unless refusal 14 or 16 applies
abbrev pub unless_negative : {A : Type 0} → Case → Result A Refusal → Result A Refusal
unless_negative c r = cond (negative_fault (factors_of c) c) (Err Negative) r

abbrev pub unless_award : {A : Type 0} → Case → Result A Refusal → Result A Refusal
unless_award c r = cond (award_fault (factors_of c) c) (Err Award) r

-- the signed difference, or that it is below zero
abbrev pub rest_of : ℕ → ℕ → Result ℕ Refusal
rest_of a b = cond (ltb a b) (Err Negative) (Ok (a - b))
