-- The refusals of reading.
-- Assumes nothing.
use Rattle.std.proofs.Common.{◌≡◌, ℕ, Bool, ◌||◌, List, refl, sym, ap, ◌∙◌, arith, Ok, Err}
use Rattle.std.specs.Prelude.{Result}
use Rattle.std.specs.Result.{result_and}
use Rattle.numbers.proofs.Tests.{or_false}
use Rattle.refusals.specs.Tests.{first, NoneOf, Verdict, verdict_number}
use Rattle.refusals.specs.declared.Refusal.{Refusal}
use Rattle.refusals.proofs.Order.{first_none}
use Rattle.cases.specs.Entries.{case_by, any_line}
use Rattle.cases.specs.Kinds.{rules_of}
use Rattle.cases.specs.Form.{kind_fault, line_reserved_fault, line_range_fault, head_reserved_fault, reserved_fault, dates_range_fault, head_range_fault, range_fault, form_tests, form_tests_by, WellFormed}
use Rattle.cases.specs.declared.Case.{Case}
use Rattle.blocks.specs.Block.{head_of, case_of, unnamed_fault}
use Rattle.blocks.specs.Reading.{reading_tests, reading_of, reading_number}

-- the refusals of a block's case, from its fields before the lines and from what its lines break
pub by_head :
    (s : List ℕ) (unnamed : Bool) →
    (let c = head_of s in
    form_tests_by (kind_fault c.kind c.count)
    (unnamed || (head_reserved_fault c || any_line (line_reserved_fault (rules_of c.kind) c.flags c.count) (case_of s)))
    (head_range_fault c || any_line (line_range_fault (rules_of c.kind) c.count) (case_of s)))
    ≡ form_tests unnamed (case_of s)
unfolding head_of case_of case_by reserved_fault range_fault head_reserved_fault head_range_fault dates_range_fault
by_head s unnamed = refl

-- the number that a reading gives is that of the first refusal that applies, or 0; no proof cites it, docs/PORT.md names it
pub numbered :
    (r : Result Case Refusal) (s : List ℕ) → r ≡ reading_of s → reading_number r ≡ verdict_number (first (reading_tests s))
unfolding reading_of
numbered r s e = ap reading_number e ∙ kept (first (reading_tests s))
  where
    kept : (v : Verdict) → reading_number (result_and v (Ok (case_of s))) ≡ verdict_number v
    kept (Ok u) = refl
    kept (Err why) = refl

-- a case that was read is well formed
pub read_well_formed : (s : List ℕ) {c : Case} → reading_of s ≡ Ok c → WellFormed c
unfolding reading_of
read_well_formed s {c} e = go (first (reading_tests s)) refl e
  where
    go : (v : Verdict) → first (reading_tests s) ≡ v → result_and v (Ok (case_of s)) ≡ Ok c → WellFormed c
    go (Err why) p e = absurd (let z : ◌≡◌ {A = ℕ} 0 1 = cc in omega arith)
    go (Ok u) p e =
        let form : NoneOf (form_tests (unnamed_fault s) (case_of s)) = (first_none (reading_tests s) p).1.1 in
        let same : case_of s ≡ c = cc in
        let formed : WellFormed (case_of s) = (form.0, ((or_false (unnamed_fault s) (reserved_fault (case_of s)) form.1.0).1, form.1.1)) in
        rw same at formed

-- where no refusal applies to a block, the case in it is what is read, and is well formed
pub reading_passed : (s : List ℕ) → first (reading_tests s) ≡ Ok tt → reading_of s ≡ Ok (case_of s)
unfolding reading_of
reading_passed s e = ap (λ (v : Verdict). result_and v (Ok (case_of s))) e

pub passed_well_formed : (s : List ℕ) (c : Case) → first (reading_tests s) ≡ Ok tt → c ≡ case_of s → WellFormed c
passed_well_formed s c e is = read_well_formed s {c = c} (reading_passed s e ∙ ap Ok (sym is))
