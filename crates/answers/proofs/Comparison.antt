-- Demand 3, proved once over the entry, the line and the factors.
-- Assumes nothing.
use Rattle.std.proofs.Common.{ℕ, ◌+◌, ◌-◌, ◌≤◌, ◌<◌, Bool, true, false, cond, ◌≡◌, refl, sym, arith, ltb, ltb-true, lt-ltb}
use Rattle.std.proofs.Math.Path.{fun_ext}
use Rattle.std.proofs.Math.Decide.{ℕ_discrete}
use Rattle.numbers.specs.Lists.{Each}
use Rattle.numbers.proofs.Lists.{each, of_listed}
use Rattle.cases.specs.Layout as layout
use Rattle.cases.specs.Layout.{Head, Amount, amount_discrete, Entry, head, date, amount, amounts}
use Rattle.cases.specs.Entries.{line, head_in, amount_in, held, AlikeBut}
use Rattle.cases.proofs.Entries.{same_line, amount_listed}
use Rattle.cases.specs.declared.Line.{Line}
use Rattle.cases.specs.declared.Case.{Case}
use Rattle.refusals.proofs.Order.{none_given}
use Rattle.refusals.specs.declared.Refusal.TheVariants.{Debit, Negative, Award}
use Rattle.sums.specs.Rows.{row_of, factors_of}
use Rattle.sums.specs.Sum.{award_fault}
use Rattle.sums.specs.Payment.{underpin, payment}
use Rattle.sums.proofs.Order.{NoWorse, no_worse_same, gross_mono, payment_mono}
use Rattle.sums.proofs.Near.{Raised, raised_no_worse, gross_near}
use Rattle.answers.specs.Answer.{Accepted, tests, gross_of, answer_of, paid}
use Rattle.answers.specs.Compare.{Role, adds, taken, other, role_on_line, promised, role_of, Compared, Demand3}
use Rattle.answers.proofs.Acceptance.{accepted_paid, accepted_payment}

-- of each amount of each line something is promised
pub all_promised : (i : ℕ) (a : Amount) → i < 4 → promised (role_of (amount i a)) ≡ true
all_promised i a h = rw (lt-ltb i 4 h) (of_listed amount_discrete (λ b. promised (role_on_line i b)) a amounts (amount_listed a) refl)

-- the pence that amount b of a line grows by, where amount a grows by e
abbrev gain : {a b : Amount} → Dec (a ≡ b) → ℕ → ℕ
gain (yes p) e = e
gain (no q) e = 0

-- amount b of line m, where m is line l with e pence more of amount a
abbrev More : Amount → ℕ → Line → Line → Amount → Type 0
More a e l m b = amount_in b m ≡ amount_in b l + gain (amount_discrete a b) e

-- what that is to the sum, where they are line i of their cases
abbrev Effect : Role → ℕ → ℕ → Line → Line → Type 0
Effect (adds b j) i e l m = (j ≡ i) × Raised b e l m
Effect taken i e l m = NoWorse m l
Effect other i e l m = Unit

effect : (a : Amount) (i e : ℕ) (l m : Line) → Each amounts (More a e l m) → Effect (role_on_line i a) i e l m
effect layout.pension i e l m k = (refl, omega arith)
effect layout.additional i e l m k = (refl, omega arith)
effect layout.survivor i e l m k = (refl, omega arith)
effect layout.dependant i e l m k = (refl, omega arith)
effect layout.lump i e l m k = (refl, omega arith)
effect layout.modification i e l m k = omega arith
effect layout.scheme_pays i e l m k = omega arith
effect layout.scheme_pays_lump i e l m k = omega arith
effect layout.debit_pension i e l m k = omega arith
effect layout.debit_survivor i e l m k = omega arith
effect layout.debit_lump i e l m k = omega arith

-- the larger amount less the smaller
abbrev extra : Amount → Line → Line → ℕ
extra a l m = amount_in a m - amount_in a l

-- lines that are alike in every amount but a
module _ (a : Amount) (l m : Line) (alike : (b : Amount) → (b ≡ a → ⊥) → amount_in b l ≡ amount_in b m) where
  more : amount_in a l ≤ amount_in a m → (b : Amount) → More a (extra a l m) l m b
  more h b = go (amount_discrete a b)
    where
      go : (s : Dec (a ≡ b)) → amount_in b m ≡ amount_in b l + gain s (extra a l m)
      go (yes p) = rw (← p) (omega arith)
      go (no q) = omega (arith, alike b (λ p. q (sym p)))

  line_effect : (i : ℕ) → amount_in a l ≤ amount_in a m → Effect (role_on_line i a) i (extra a l m) l m
  line_effect i h = effect a i (extra a l m) l m (each amounts (more h))

-- two cases that are alike but for amount a of line i
module _ (i : ℕ) (a : Amount) (c d : Case) (alike : AlikeBut (amount i a) c d) where
  -- the fields before the lines, and the lines' dates, are no amounts of lines
  heads : (h : Head) → head_in h c ≡ head_in h d
  heads h = alike (head h) (λ p. let z : ◌≡◌ {A = ℕ} 0 1 = cc in omega arith)

  dates : (j : ℕ) → (line c j).date ≡ (line d j).date
  dates j = cc (alike (date j) (λ p. let z : ◌≡◌ {A = ℕ} 0 1 = cc in omega arith))

  other_amount : (j : ℕ) (b : Amount) → (amount j b ≡ amount i a → ⊥) → amount_in b (line c j) ≡ amount_in b (line d j)
  other_amount j b n = cc (alike (amount j b) n)

  other_line : (j : ℕ) → (j ≡ i → ⊥) → line c j ≡ line d j
  other_line j n = same_line (line c j) (line d j) (dates j) (λ b. other_amount j b (λ p. n (cc)))

  -- the factors, and steps 5 and 6, are the same
  factors_same : factors_of c ≡ factors_of d
  unfolding factors_of row_of
  factors_same = fun_ext (λ j. cc (heads layout.count, heads layout.kind, heads layout.sex, heads layout.birth, heads layout.guarantee, dates j))

  payment_same : (g : ℕ) → payment c g ≡ payment d g
  unfolding payment underpin
  payment_same g = cc (heads layout.flags, heads layout.transfer, heads layout.contributions, heads layout.avc)

  rate_same : c.revaluation ≡ d.revaluation
  rate_same = cc (heads layout.revaluation)

  -- 16 applies to neither, with the same factors
  no_awards : Accepted c → Accepted d → (award_fault (factors_of c) c ≡ false) × (award_fault (factors_of c) d ≡ false)
  unfolding tests
  no_awards m n = (none_given Award (tests c) m, rw factors_same (none_given Award (tests d) n))

  -- where line i is no worse in d, d is paid no less
  paid_order : Accepted c → Accepted d → NoWorse (line c i) (line d i) → paid (answer_of c) ≤ paid (answer_of d)
  unfolding gross_of
  paid_order m n w =
      rw (accepted_payment c m, accepted_payment d n, payment_same, ← factors_same)
      (payment_mono d (gross_mono (factors_of c) c d rate_same (λ j. lines j (ℕ_discrete j i)) (no_awards m n)))
    where
      lines : (j : ℕ) → Dec (j ≡ i) → NoWorse (line c j) (line d j)
      lines j (yes p) = rw p w
      lines j (no q) = rw (other_line j q) (no_worse_same (line d j))

-- what they are paid, by the amount's role
by_role :
    (i : ℕ) (a : Amount) (c d : Case) → AlikeBut (amount i a) c d → i < 4 → Accepted c → Accepted d →
    amount_in a (line c i) ≤ amount_in a (line d i) →
    Compared (role_on_line i a) c (answer_of c) d (answer_of d) (extra a (line c i) (line d i))
unfolding tests gross_of
by_role i a c d alike within m n h =
    go (role_on_line i a) (line_effect a (line c i) (line d i) (λ b q. other_amount i a c d alike i b (λ p. q (cc))) i h)
  where
    e : ℕ
    e = extra a (line c i) (line d i)

    go : (r : Role) → Effect r i e (line c i) (line d i) → Compared r c (answer_of c) d (answer_of d) e
    go (adds b j) r = (
      paid_order i a c d alike m n (raised_no_worse b e (line c i) (line d i) r.1),
      rw (r.0, ← factors_same i a c d alike)
          (gross_near (factors_of c) c d i within (rate_same i a c d alike) (other_line i a c d alike) b e r.1
          (none_given Debit (tests c) m) (none_given Negative (tests c) m) (no_awards i a c d alike m n)),
    )
    go taken w = paid_order i a d c (λ x q. sym (alike x q)) n m w
    go other w = tt

-- any entry
compare :
    (e : Entry) (c d : Case) → AlikeBut e c d → Accepted c → Accepted d → held e c ≤ held e d →
    Compared (role_of e) c (answer_of c) d (answer_of d) (held e d - held e c)
compare (layout.head h) c d alike m n o = tt
compare (layout.date i) c d alike m n o = tt
compare (layout.amount i a) c d alike m n o = go (ltb i 4) refl
  where
    go : (t : Bool) → ltb i 4 ≡ t → Compared (cond t (role_on_line i a) other) c (answer_of c) d (answer_of d) (extra a (line c i) (line d i))
    go true p = by_role i a c d alike (ltb-true i 4 p) m n o
    go false p = tt

pub demand3 : (c : Case) → Demand3 c (answer_of c)
demand3 c = record {
  payable = λ m. (accepted_paid c m, accepted_payment c m);
  compared = λ e d s alike m n p o. rw p (compare e c d alike m n o);
}
