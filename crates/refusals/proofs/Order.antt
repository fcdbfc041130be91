-- The laws of tests in their order, over any list of them.
-- Assumes nothing.
use Rattle.std.proofs.Common.{ap, ℕ, Bool, true, false, cond, ◌&&◌, ◌||◌, true≢false, List, [], ◌∷◌, ◌++◌, ◌≡◌, refl, sym, ◌∙◌, arith, eqb, Ok, Err}
use Rattle.std.specs.Prelude.{Result, IsErrAnd}
use Rattle.std.specs.Result.{result_and}
use Rattle.refusals.specs.Refusals.{number_of}
use Rattle.refusals.specs.Tests.{Test, first, NoneOf, Verdict, verdict_number}
use Rattle.refusals.specs.declared.Refusal.{Refusal}
use Rattle.refusals.proofs.Naming.{numbered}

-- the first of two lists joined
pub first_append : (a b : List Test) → first (a ++ b) ≡ result_and (first a) (first b)
first_append [] b = refl
first_append (t ∷ a) b = go t.applies (first_append a b)
  where
    go : (s : Bool) → first (a ++ b) ≡ result_and (first a) (first b) → cond s (Err t.refusal) (first (a ++ b)) ≡ result_and (cond s (Err t.refusal) (first a)) (first b)
    go true e = refl
    go false e = e

-- none is given exactly where none applies
pub none_first : (ts : List Test) → NoneOf ts → first ts ≡ Ok tt
none_first [] none = refl
none_first (t ∷ ts) none = rw none.0 (none_first ts none.1)

pub first_none : (ts : List Test) → first ts ≡ Ok tt → NoneOf ts
first_none [] e = tt
first_none (t ∷ ts) e = go t.applies refl e (first_none ts)
  where
    go : (s : Bool) → t.applies ≡ s → cond s (Err t.refusal) (first ts) ≡ Ok tt → (first ts ≡ Ok tt → NoneOf ts) → (t.applies ≡ false) × NoneOf ts
    go true p e rest = absurd (let z : ◌≡◌ {A = ℕ} 0 1 = cc in omega arith)
    go false p e rest = (p, rest e)

-- whether a test that applies gives refusal r
abbrev pub given : Refusal → List Test → Bool
given r [] = false
given r (t ∷ ts) = cond (eqb (number_of t.refusal) (number_of r)) (given r ts || t.applies) (given r ts)

-- where none applies, none that gives r does
pub none_given : (r : Refusal) (ts : List Test) → NoneOf ts → given r ts ≡ false
none_given r [] none = refl
none_given r (t ∷ ts) none = go (eqb (number_of t.refusal) (number_of r)) (none_given r ts none.1)
  where
    go : (k : Bool) → given r ts ≡ false → cond k (given r ts || t.applies) (given r ts) ≡ false
    go true rest = rw (rest, none.0)
    go false rest = rest

-- a front part of which none applies, and one of which one does
pub first_past : (a b : List Test) → NoneOf a → first (a ++ b) ≡ first b
first_past a b none = first_append a b ∙ rw (none_first a none)

pub first_stays : (a b : List Test) {why : Refusal} → first a ≡ Err why → first (a ++ b) ≡ Err why
first_stays a b e = first_append a b ∙ rw e

-- a test between two lists changes nothing where it does not apply
pub first_insert : (a b : List Test) (t : Test) → t.applies ≡ false → first (a ++ (t ∷ b)) ≡ first (a ++ b)
first_insert a b t e = first_append a (t ∷ b) ∙ rw e (sym (first_append a b))

-- two neighbouring tests in the other order
module _ (a b : List Test) (s t : Test) where
  -- the first is the same, unless both apply and none before them does
  pub first_swap_same : (NoneOf a → (s.applies && t.applies) ≡ false) → first (a ++ (s ∷ t ∷ b)) ≡ first (a ++ (t ∷ s ∷ b))
  first_swap_same unless = first_append a (s ∷ t ∷ b) ∙ go (first a) refl ∙ sym (first_append a (t ∷ s ∷ b))
    where
      two : (x y : Bool) → (x && y) ≡ false → cond x (Err s.refusal) (cond y (Err t.refusal) (first b)) ≡ cond y (Err t.refusal) (cond x (Err s.refusal) (first b))
      two true true e = absurd (true≢false e)
      two true false e = refl
      two false y e = refl

      go : (v : Verdict) → first a ≡ v → result_and v (first (s ∷ t ∷ b)) ≡ result_and v (first (t ∷ s ∷ b))
      go (Err why) e = refl
      go (Ok tt) e = two s.applies t.applies (unless (first_none a e))

  -- where both apply and none before them does, it is the one of the two that stands first
  pub first_swap_both : NoneOf a → s.applies ≡ true → t.applies ≡ true
      → (first (a ++ (s ∷ t ∷ b)) ≡ Err s.refusal) × (first (a ++ (t ∷ s ∷ b)) ≡ Err t.refusal)
  first_swap_both none p q = (first_past a (s ∷ t ∷ b) none ∙ rw p, first_past a (t ∷ s ∷ b) none ∙ rw q)

-- what earlier tests found, else later ones, and the same in numbers, since no refusal has number 0; no proof cites it, docs/PORT.md
-- names it
pub or_else_lem : (v w : Verdict) {r : Verdict} → r ≡ result_and v w
    → (r ≡ result_and v w) × (verdict_number r ≡ cond (eqb (verdict_number v) 0) (verdict_number w) (verdict_number v))
or_else_lem (Ok u) w e = (e, ap verdict_number e)
or_else_lem (Err why) w e = (e, ap verdict_number e ∙ rw (numbered why))

-- Tests in a row by `?`, each of which answers an error or goes on.
-- one that goes on does not apply
pub passed : {A : Type 0} (s : Bool) (r : Refusal) (v : Result A Refusal) {x : A} → Ok x ≡ cond s (Err r) v → (s ≡ false) × (v ≡ Ok x)
passed true r v e = absurd (let z : ◌≡◌ {A = ℕ} 0 1 = cc in omega arith)
passed false r v e = (refl, sym e)

pub passed_number : (s : Bool) (r : Refusal) (n : ℕ) {m : ℕ} → Ok m ≡ cond s (Err r) (Ok n) → (s ≡ false) × (n ≡ m)
passed_number s r n e = let p = passed s r (Ok n) e in (p.0, same p.1)
  where
    same : {n m : ℕ} → ◌≡◌ {A = Result ℕ Refusal} (Ok n) (Ok m) → n ≡ m
    same e = cc

-- `?` hands an error on as it is
pub handed_on : {A : Type 0} (v : Result A Refusal) (r : Refusal) → IsErrAnd v (λ q. q ≡ r) → v ≡ Err r
handed_on (Ok x) r h = absurd h
handed_on (Err q) r h = ap Err h
