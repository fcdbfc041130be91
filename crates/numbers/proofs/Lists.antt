-- What a test over a list says of each member.
-- Assumes nothing.
use Rattle.std.proofs.Common.{ℕ, zero, suc, ◌-◌, ◌≤◌, ◌<◌, Bool, true, false, not, ◌||◌, List, [], ◌∷◌, ◌≡◌, refl, sym, ap, ◌∙◌, arith, length, drop, get_or, drop-cons}
use Rattle.std.proofs.Math.Bool.{and-eq-true_iff, false≢true}
use Rattle.std.proofs.Math.Seq.{drop-length}
use Rattle.std.specs.List.{list_all}
use Rattle.std.proofs.lemmas.Bool.{not-false}
use Rattle.numbers.specs.Lists.{any, Each}
use Rattle.numbers.proofs.Tests.{or_false}

-- of a fact of every x, and of what a test that holds of no member gives
pub each : {A : Type 0} {P : A → Type 0} (xs : List A) → ((x : A) → P x) → Each xs P
each [] f = tt
each (x ∷ xs) f = (f x, each xs f)

pub each_not : {A : Type 0} {P : A → Type 0} (t : A → Bool) (xs : List A) → ((x : A) → t x ≡ false → P x) → any t xs ≡ false → Each xs P
each_not t [] f e = tt
each_not t (x ∷ xs) f e = let b = or_false (t x) (any t xs) e in (f x b.0, each_not t xs f b.1)

-- a test that fails of no member holds of every one
pub none_every : {A : Type 0} (t : A → Bool) (xs : List A) → any (λ x. not (t x)) xs ≡ false → list_all t xs ≡ true
none_every t [] e = refl
none_every t (x ∷ xs) e =
    let b = or_false (not (t x)) (any (λ y. not (t y)) xs) e in rw (not-false (t x) b.0) (none_every t xs b.1)

-- whether x is a member of a list of what can be told apart
abbrev or_if : {P : Type 0} → Dec P → Bool → Bool
or_if (yes p) b = true
or_if (no q) b = b

abbrev pub listed : {A : Type 0} → ((x y : A) → Dec (x ≡ y)) → A → List A → Bool
listed d x [] = false
listed d x (y ∷ ys) = or_if (d x y) (listed d x ys)

-- then what a test says of every member it says of x
pub of_listed : {A : Type 0} (d : (x y : A) → Dec (x ≡ y)) (t : A → Bool) (x : A) (xs : List A) → listed d x xs ≡ true → list_all t xs ≡ true → t x ≡ true
of_listed d t x [] e h = absurd (false≢true e)
of_listed d t x (y ∷ ys) e h = go (d x y) e (of_listed d t x ys)
  where
    both : (t y ≡ true) × (list_all t ys ≡ true)
    both = (and-eq-true_iff (t y) (list_all t ys)).0 h

    go : (s : Dec (x ≡ y)) → or_if s (listed d x ys) ≡ true → (listed d x ys ≡ true → list_all t ys ≡ true → t x ≡ true) → t x ≡ true
    go (yes p) e rest = rw p both.0
    go (no q) e rest = rest e both.1

-- a test over a list from its end to its start: of none, and of one member more; no proof cites these, docs/PORT.md names them
pub any_past : (t : ℕ → Bool) (xs : List ℕ) → false ≡ any t (drop (length xs) xs)
any_past t xs = rw (drop-length xs)

pub any_back : (t : ℕ → Bool) (xs : List ℕ) (i : ℕ) → 0 < i → i ≤ length xs → (t (get_or xs (i - 1) 0) || any t (drop i xs)) ≡ any t (drop (i - 1) xs)
any_back t xs i p h =
    let e : i ≡ suc (i - 1) = omega arith in
    ap (λ (n : ℕ). t (get_or xs (i - 1) 0) || any t (drop n xs)) e ∙ sym (ap (any t) (drop-cons xs (i - 1) 0 (omega arith)))

-- where a test holds of every member, what it gives holds at every place, if it holds of what stands for a place past the end
pub every_at : {A : Type 0} {P : A → Type 0} (t : A → Bool) (xs : List A) (d : A) → ((x : A) → t x ≡ true → P x) → P d → list_all t xs ≡ true → (i : ℕ) → P (get_or xs i d)
every_at t [] d f p e i = p
every_at t (x ∷ xs) d f p e zero = f x ((and-eq-true_iff (t x) (list_all t xs)).0 e).0
every_at t (x ∷ xs) d f p e (suc i) = every_at t xs d f p ((and-eq-true_iff (t x) (list_all t xs)).0 e).1 i
