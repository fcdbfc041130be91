-- How far apart the gross values of two cases lie that are alike but for one benefit of one line.
-- Assumes nothing.
use Rattle.std.proofs.Common.{ℕ, ◌+◌, ◌-◌, ◌*◌, ◌≤◌, ◌<◌, false, ◌≡◌, refl, sym, ap, ◌∙◌, add-mul, zero-mul, add-zero, mul_right_comm, arith, lit<}
use Rattle.std.proofs.Math.Decide.{ℕ_discrete}
use Rattle.numbers.specs.Rounding.{nearest, Within}
use Rattle.numbers.proofs.Rounding.{nearest_near}
use Rattle.numbers.proofs.Within.{within_mul}
use Rattle.numbers.proofs.Below.{sum_same, sum_at}
use Rattle.cases.specs.Entries.{line}
use Rattle.cases.specs.declared.Line.{Line}
use Rattle.cases.specs.declared.Case.{Case}
use Rattle.factors.specs.declared.Factors.{Factors}
use Rattle.sums.specs.Sum.{Benefit, member_pension, lump_sum, survivor_pension, entered, revalued, scheme_pays_on, reduced, debited, factor, deduction_at, over_benefits, valued_at, valued_on, item, deduction, credit, negative_fault, first_value, debit_value, award_fault, gross_by, scheme_pays_fault}
use Rattle.sums.proofs.Order.{each, of_each, NoWorse, revalued_mono, debit_mono}
use Rattle.sums.proofs.Covered.{covered, not_negative}
use Rattle.sums.proofs.Divorce.{gross_and_debit}

-- one number to each benefit; e to b and 0 to the others
abbrev pub per_benefit : ℕ → ℕ → ℕ → Benefit → ℕ
per_benefit p l s member_pension = p
per_benefit p l s lump_sum = l
per_benefit p l s survivor_pension = s

abbrev pub only : Benefit → ℕ → Benefit → ℕ
only member_pension e = per_benefit e 0 0
only lump_sum e = per_benefit 0 e 0
only survivor_pension e = per_benefit 0 0 e

only_sum : (b : Benefit) (e : ℕ) (g : Benefit → ℕ → ℕ) → ((x : Benefit) → g x 0 ≡ 0) → over_benefits (λ x. g x (only b e x)) ≡ g b e
only_sum member_pension e g none = omega (arith, none lump_sum, none survivor_pension)
only_sum lump_sum e g none = omega (arith, none member_pension, none survivor_pension)
only_sum survivor_pension e g none = omega (arith, none member_pension, none lump_sum)

-- line m is line l with e pence more of benefit b, and nothing else that the sum sees
pub record Raised (b : Benefit) (e : ℕ) (l m : Line) : Type 0 where
  pub benefits : each (λ x. entered x m ≡ entered x l + only b e x)
  pub scheme_pays : each (λ x. scheme_pays_on x m ≡ scheme_pays_on x l)
  pub modification : m.modification ≡ l.modification
  pub divorce_debit : each (λ x. debited x m ≡ debited x l)

pub raised_no_worse : (b : Benefit) (e : ℕ) (l m : Line) → Raised b e l m → NoWorse l m
raised_no_worse b e l m r = omega arith

-- what e pence more than x come to once revalued
abbrev growth : ℕ → ℕ → ℕ → ℕ
growth v x e = revalued v (x + e) - revalued v x

growth_none : (v x k : ℕ) → growth v x 0 * k ≡ 0
growth_none v x k = rw add-zero (ap (λ (n : ℕ). n * k) (omega arith) ∙ zero-mul k)

-- 10,000 times the growth is e times v to within 10,000
growth_near : (v x e : ℕ) → Within 10000 (growth v x e * 10000) (e * v)
growth_near v x e =
    omega (arith, revalued_mono v {x = x} {y = x + e} (omega arith), nearest_near 10000 (x * v) ((x + e) * v) (lit< tt), add-mul x e v)

-- an item grows by the growth times its factor k, where the debit p on it is covered
item_grows : (v x e p k : ℕ) → p ≤ revalued v x → (revalued v (x + e) - p) * k ≡ (revalued v x - p) * k + growth v x e * k
item_grows v x e p k h =
    ap (λ (n : ℕ). n * k) (omega (arith, revalued_mono v {x = x} {y = x + e} (omega arith))) ∙ add-mul (revalued v x - p) (growth v x e) k

-- a total t that grows by g times k, where 10,000 times g is n to within 10,000: rounded to the penny it grows by n times k
-- millionths to within k hundredths and a penny
rounded_near :
    (t g k n : ℕ) → Within 10000 (g * 10000) n →
    Within ((k + 100) * 10000) (nearest 100 (t + g * k) * 1000000) (nearest 100 t * 1000000 + n * k)
rounded_near t g k n w =
    omega (arith, within_mul 10000 (g * 10000) n k w, mul_right_comm g 10000 k, nearest_near 100 t (t + g * k) (lit< tt))

-- d is c but for e pence more of benefit b on line i, refusals 13 and 14 do not apply to c, and 16 applies to neither
module _
    (f : ℕ → Factors) (c d : Case) (i : ℕ) (within : i < 4)
    (rate : c.revaluation ≡ d.revaluation)
    (rest : (j : ℕ) → (j ≡ i → ⊥) → line c j ≡ line d j)
    (b : Benefit) (e : ℕ) (r : Raised b e (line c i) (line d i))
    (no_excess : scheme_pays_fault c ≡ false) (notNegative : negative_fault f c ≡ false)
    (no_award : (award_fault f c ≡ false) × (award_fault f d ≡ false))
  where
    rise : Benefit → ℕ → ℕ
    rise x n = growth c.revaluation (entered x (line c i)) n * factor x (f i)

    item_rises : (x : Benefit) → item f d x ≡ item f c x + rise x (only b e x)
    unfolding valued_on rise
    item_rises x =
        sum_at 4 (λ j. valued_at (f j) (reduced c.revaluation (line c j)) x) (λ j. valued_at (f j) (reduced d.revaluation (line d j)) x) (rise x (only b e x)) i within
        (λ j n. rw (rate, rest j n))
        (rw (← rate, of_each (λ y. entered y (line d i) ≡ entered y (line c i) + only b e y) r.benefits x, of_each (λ y. scheme_pays_on y (line d i) ≡ scheme_pays_on y (line c i)) r.scheme_pays x)
        (item_grows c.revaluation (entered x (line c i)) (only b e x) (scheme_pays_on x (line c i)) (factor x (f i)) (covered c no_excess i within x)))

    credit_rises : credit f d ≡ credit f c + rise b e
    unfolding credit rise
    credit_rises = omega (arith, item_rises member_pension, item_rises lump_sum, item_rises survivor_pension, only_sum b e rise none)
      where
        none : (x : Benefit) → rise x 0 ≡ 0
        none x = growth_none c.revaluation (entered x (line c i)) (factor x (f i))

    deduction_kept : deduction f d ≡ deduction f c
    unfolding deduction
    deduction_kept = sum_same 4 _ _ (λ j h. go j (ℕ_discrete j i))
      where
        go : (j : ℕ) → Dec (j ≡ i) → deduction_at (f j) (line d j) ≡ deduction_at (f j) (line c j)
        go j (yes p) = rw (p, r.modification)
        go j (no n) = rw (rest j n)

    total_rises : credit f d - deduction f d ≡ credit f c - deduction f c + rise b e
    total_rises = omega (arith, credit_rises, deduction_kept, not_negative f c notNegative)

    first_near :
        Within ((factor b (f i) + 100) * 10000) (first_value f d * 1000000) (first_value f c * 1000000 + e * c.revaluation * factor b (f i))
    unfolding first_value rise
    first_near =
        rw total_rises
        (rounded_near (credit f c - deduction f c) (growth c.revaluation (entered b (line c i)) e) (factor b (f i)) (e * c.revaluation)
        (growth_near c.revaluation (entered b (line c i)) e))

    debit_kept : debit_value f d ≡ debit_value f c
    debit_kept = omega (arith, debit_mono f c d rate (λ j. let e = same j in omega arith), debit_mono f d c (sym rate) (λ j. let e = same j in omega arith))
      where
        same : (j : ℕ) → each (λ x. debited x (line d j) ≡ debited x (line c j))
        same j = go (ℕ_discrete j i)
          where
            go : Dec (j ≡ i) → each (λ x. debited x (line d j) ≡ debited x (line c j))
            go (yes p) = rw p r.divorce_debit
            go (no n) = rw (rest j n) (refl, refl, refl)

    pub gross_near :
        Within ((factor b (f i) + 100) * 10000) (gross_by f d * 1000000) (gross_by f c * 1000000 + e * c.revaluation * factor b (f i))
    gross_near = omega (arith, first_near, debit_kept, gross_and_debit f c no_award.0, gross_and_debit f d no_award.1)
