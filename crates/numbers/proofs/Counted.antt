-- A test of a list's members at their places, within a count: the same as a test of as many members from the front.
-- Assumes nothing.
use Rattle.std.proofs.Common.{ℕ, zero, suc, ◌+◌, ◌-◌, ◌<◌, ◌≤◌, Bool, true, false, not, ◌&&◌, ◌||◌, List, [], ◌∷◌, ◌≡◌, refl, sym, ap, ◌∙◌, arith, min, length, get_or, take, drop, get_or-drop, get_or-take, length-drop, length-take, leb, ltb, le-ltb, lt-ltb, le-leb}
use Rattle.std.proofs.Math.Bool.{or_assoc, or-false, and-false}
use Rattle.std.proofs.Math.Dec.{leb-suc-suc}
use Rattle.std.proofs.Math.Decide.{ℕ_discrete, dec_le, dec_lt}
use Rattle.std.proofs.Math.Path.{fun_ext}
use Rattle.std.proofs.lemmas.Bool.{lt-leb}
use Rattle.std.specs.List.{list_any, IsAllAdjacentAnswer}
use Rattle.numbers.specs.Below.{any_below}

-- the first number and the others
any_first : (n : ℕ) (t : ℕ → Bool) → any_below (suc n) t ≡ (t 0 || any_below n (λ i. t (suc i)))
unfolding any_below
any_first zero t = sym (or-false (t 0))
any_first (suc n) t = ap (λ b. b || t (suc n)) (any_first n t) ∙ or_assoc (t 0) (any_below n (λ i. t (suc i))) (t (suc n))

-- it holds of no number, and of one
any_nowhere : (n : ℕ) (t : ℕ → Bool) → ((i : ℕ) → i < n → t i ≡ false) → any_below n t ≡ false
unfolding any_below
any_nowhere zero t f = refl
any_nowhere (suc n) t f = rw (any_nowhere n t (λ i h. f i (omega arith)), f n (omega arith)) refl

any_somewhere : (n : ℕ) (t : ℕ → Bool) (i : ℕ) → i < n → t i ≡ true → any_below n t ≡ true
unfolding any_below
any_somewhere zero t i h e = absurd (omega arith)
any_somewhere (suc n) t i h e = go (ℕ_discrete i n) (λ l. any_somewhere n t i l e)
  where
    go : Dec (i ≡ n) → (i < n → any_below n t ≡ true) → (any_below n t || t n) ≡ true
    go (yes p) earlier = rw (← p, e) (grind arith)
    go (no q) earlier = rw (earlier (omega arith)) refl

module _ {A : Type 0} (d : A) where
  module _ (t : A → Bool) where
    -- each member within the count
    pub any_counted : (n : ℕ) (xs : List A) → any_below (length xs) (λ i. ltb i n && t (get_or xs i d)) ≡ list_any t (take n xs)
    unfolding any_below
    any_counted zero xs = any_nowhere (length xs) _ (λ i h. rw (le-ltb i 0 (omega arith)) refl)
    any_counted (suc n) [] = refl
    any_counted (suc n) (x ∷ xs) =
        any_first (length xs) (λ i. ltb i (suc n) && t (get_or (x ∷ xs) i d)) ∙
        rw (lt-ltb 0 (suc n) (omega arith)) (ap (λ b. t x || b) (ap (any_below (length xs)) (fun_ext (λ i. rw (leb-suc-suc (suc i) n))) ∙ any_counted n xs))

    -- each but the first
    pub any_counted_later : (n : ℕ) (xs : List A) → any_below (length xs) (λ i. leb 1 i && ltb i n && t (get_or xs i d)) ≡ list_any t (drop 1 (take n xs))
    unfolding any_below
    any_counted_later zero xs = any_nowhere (length xs) _ (λ i h. rw (le-ltb i 0 (omega arith), and-false (leb 1 i)) refl)
    any_counted_later (suc n) [] = refl
    any_counted_later (suc n) (x ∷ xs) =
        any_first (length xs) (λ i. leb 1 i && ltb i (suc n) && t (get_or (x ∷ xs) i d)) ∙
        ap (any_below (length xs)) (fun_ext (λ i. rw (leb-suc-suc 0 i, le-leb 0 i (omega arith), leb-suc-suc (suc i) n))) ∙ any_counted n xs

  module _ (e : A → A → Bool) (n : ℕ) (xs : List A) where
    member : (k i : ℕ) → i ≡ 1 + k → i < n → get_or (drop 1 (take n xs)) k d ≡ get_or xs i d
    member k i p h = rw p (get_or-drop 1 (take n xs) k d ∙ get_or-take n xs (1 + k) d (omega arith))

    members : length (drop 1 (take n xs)) ≡ min n (length xs) - 1
    members = omega (arith, length-drop 1 (take n xs), length-take n xs)

    -- each but the first two, and the one before it, as `is_sorted_by` answers of what is left after the first
    pub any_unsorted : (r : Bool) → IsAllAdjacentAnswer (λ x y b. b ≡ e x y) (drop 1 (take n xs)) r
        → any_below (length xs) (λ i. leb 2 i && ltb i n && not (e (get_or xs (i - 1) d) (get_or xs i d))) ≡ not r
    any_unsorted true sorted = any_nowhere (length xs) _ (λ i h. go i h (dec_le 2 i) (dec_lt i n))
      where
        go : (i : ℕ) → i < length xs → Dec (2 ≤ i) → Dec (i < n) → (leb 2 i && ltb i n && not (e (get_or xs (i - 1) d) (get_or xs i d))) ≡ false
        go i h (yes p) (yes q) =
            rw (← member (i - 2) (i - 1) (omega arith) (omega arith), ← member (i - 2 + 1) i (omega arith) q, ← sorted (i - 2) d (omega (arith, members)), and-false (leb 2 i && ltb i n)) refl
        go i h (no p) q = rw (lt-leb 2 i (omega arith)) refl
        go i h p (no q) = rw (le-ltb i n (omega arith), and-false (leb 2 i)) refl
    any_unsorted false unsorted =
        let k = unsorted.0 in
        let i = k + 2 in
        any_somewhere (length xs) _ i (omega (arith, members, unsorted.1))
        (rw (
          le-leb 2 i (omega arith),
          lt-ltb i n (omega (arith, members, unsorted.1)),
          ← member k (i - 1) (omega arith) (omega (arith, members, unsorted.1)),
          ← member (k + 1) i (omega arith) (omega (arith, members, unsorted.1)),
          ← unsorted.2 d,
        ) refl)
