-- The table of two digits.
-- Assumes nothing.
use Rattle.std.proofs.Common.{ℕ, ◌+◌, ◌*◌, ◌<◌, List, [], ◌∷◌, map, ◌≡◌, refl, sym, ap, ◌∙◌, arith, get_or}
use Rattle.std.specs.List.{range_with_len}
use Rattle.std.proofs.lemmas.List.FromFn.{get_or-map-range_with_len}
use Rattle.buffers.specs.Decimal.{last_digits}
use Rattle.buffers.specs.declared.digits.TheConstants.{PAIRS}

abbrev pair : ℕ → List ℕ
pair n = get_or PAIRS (2 * n) 0 ∷ get_or PAIRS (2 * n + 1) 0 ∷ []

pairs_are : map pair (range_with_len 0 100) ≡ map (last_digits 2) (range_with_len 0 100)
unfolding last_digits
pairs_are = refl

pub pair_at : (n : ℕ) → n < 100 → get_or PAIRS (2 * n) 0 ∷ get_or PAIRS (2 * n + 1) 0 ∷ [] ≡ last_digits 2 n
pair_at n h =
    let z : 0 + n ≡ n = omega arith in
    sym (get_or-map-range_with_len pair 0 100 n n [] h z) ∙ ap (λ (rows : List (List ℕ)). get_or rows n []) pairs_are ∙ get_or-map-range_with_len (last_digits 2) 0 100 n n [] h z
