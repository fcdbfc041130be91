-- What is left to read.
-- Assumes nothing.
use Rattle.std.proofs.Common.{ℕ, ◌+◌, ◌-◌, ◌≤◌, ◌<◌, List, ⊎_elim, ◌≡◌, arith, length, le-leb}
use Rattle.runs.specs.declared.Counts.{Counts}
use Rattle.runs.specs.Run.{limit, left, counted}
use Rattle.std.proofs.lemmas.Bool.{cases_lt, lt-leb}
use Rattle.runs.proofs.Lines.{paid_few}

pub left_sound : (t : Counts) → t.paid ≤ t.blocks → left t ≡ limit - t.blocks
left_sound t h = rw (le-leb t.paid t.blocks h)

pub left_unsound : (t : Counts) → t.blocks < t.paid → left t ≡ 0
left_unsound t h = rw (lt-leb t.paid t.blocks h)

-- where something is left
pub left_within : (t : Counts) → 0 < left t → (t.blocks + left t ≤ limit) × (t.paid ≤ t.blocks)
left_within t some =
    ⊎_elim
    (λ (h : t.blocks < t.paid). absurd (omega (arith, left_unsound t h)))
    (λ (h : t.paid ≤ t.blocks). (omega (arith, left_sound t h), h))
    (cases_lt t.blocks t.paid)

-- after blocks no more than were left
pub left_after : (t : Counts) (bs : List (List ℕ)) → length bs ≤ left t → left (counted t bs) ≡ left t - length bs
left_after t bs few =
    let p = paid_few bs in
    ⊎_elim
    (λ (h : t.blocks < t.paid).
    let z = left_unsound t h in
    omega (arith, left_unsound (counted t bs) (omega arith)))
    (λ (h : t.paid ≤ t.blocks). omega (arith, left_sound t h, left_sound (counted t bs) (omega arith)))
    (cases_lt t.blocks t.paid)
