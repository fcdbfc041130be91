-- What tests that are joined by `and` or `or` tell of each. The kit has more: Rattle.std.proofs.Math.Bool.
-- Assumes nothing.
use Rattle.std.proofs.Common.{Bool, true, false, ◌&&◌, ◌||◌, List, [], ◌∷◌, ◌≡◌}
use Rattle.std.proofs.Math.Bool.{false≢true}
pub use Rattle.std.proofs.lemmas.Bool.{or_parts as or_false}

-- where the whole does not hold but the first test does, the second does not
pub and_right_false : (s t : Bool) → s ≡ true → (s && t) ≡ false → t ≡ false
and_right_false true t p e = e
and_right_false false t p e = absurd (false≢true p)

-- a test, and those after it in their order
abbrev pub or_from : Bool → List Bool → Bool
or_from t [] = t
or_from t (u ∷ us) = or_from (t || u) us

abbrev pub AllFalse : List Bool → Type 0
AllFalse [] = Unit
AllFalse (t ∷ ts) = (t ≡ false) × AllFalse ts

pub none_holds : (t : Bool) (us : List Bool) → or_from t us ≡ false → AllFalse (t ∷ us)
none_holds t [] e = (e, tt)
none_holds t (u ∷ us) e =
    let r = none_holds (t || u) us e in
    let b = or_false t u r.0 in
    (b.0, (b.1, r.1))
