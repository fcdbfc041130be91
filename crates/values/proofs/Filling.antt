-- A read in place: the filled front of a buffer grows by what was read after it.
-- Assumes nothing.
use Rattle.std.proofs.Common.{◌≡◌, ℕ, ◌+◌, ◌≤◌, List, ◌++◌, length, take, drop, sym, ap, subst, ◌∙◌, arith, length-take-le, take-take, take-add}
use Rattle.std.proofs.Math.Seq.{drop-append-le}
use Rattle.std.specs.Prelude.{Option}
use Rattle.std.specs.Io.KnownBytes.{Consumes}
use Rattle.std.proofs.KnownBytes.{Consumes-trans}

-- xs was filled up to f, and ys has that front and n bytes more; h of them were held before
pub filled_more : (a b c : Option (List ℕ)) (xs ys : List ℕ) (h f n : ℕ) → h ≤ f → f ≤ length ys → take f ys ≡ take f xs
    → Consumes a b (drop h (take f xs)) → Consumes b c (take n (drop f ys)) → Consumes a c (drop h (take (f + n) ys))
filled_more a b c xs ys h f n low within front before read =
    let split : take (f + n) ys ≡ take f xs ++ take n (drop f ys) = take-add f n ys ∙ ap (λ l. l ++ take n (drop f ys)) front in
    let long : h ≤ length (take f xs) = omega (arith, ap length front, length-take-le f ys within) in
    subst (Consumes a c) (sym (ap (drop h) split ∙ drop-append-le h (take f xs) (take n (drop f ys)) long)) (Consumes-trans a b c _ _ before read)

-- a shorter front stays too
pub shorter_front : (xs ys zs : List ℕ) (h f : ℕ) → h ≤ f → take f ys ≡ take f xs → take h xs ≡ take h zs → take h ys ≡ take h zs
shorter_front xs ys zs h f low front kept = sym (take-take h f ys low) ∙ ap (take h) front ∙ take-take h f xs low ∙ kept
