-- Tests in their order, and the first that applies.
-- Assumes nothing.
use Rattle.std.specs.Prelude.{ℕ, Bool, false, cond, List, [], ◌∷◌, Result, Ok, Err, ◌≡◌}
use Rattle.refusals.specs.Refusals.{number_of}
use Rattle.refusals.specs.declared.Refusal.{Refusal}

-- a refusal, and whether it applies
pub record Test : Type 0 where
  pub applies : Bool
  pub refusal : Refusal

infix 4 ◌gives◌
abbrev pub ◌gives◌ : Bool → Refusal → Test
◌gives◌ b r = record { applies = b; refusal = r }

-- what tests in their order find: the refusal of the first that applies, or that none does
abbrev pub Verdict : Type 0
Verdict = Result Unit Refusal

-- the first that applies is given; std's find and map would say the same in two steps
abbrev pub first : List Test → Verdict
first [] = Ok tt
first (t ∷ ts) = cond t.applies (Err t.refusal) (first ts)

-- no test of a list applies
abbrev pub NoneOf : List Test → Type 0
NoneOf [] = Unit
NoneOf (t ∷ ts) = (t.applies ≡ false) × NoneOf ts

-- a verdict's number: that of its refusal, and 0 where none applies
abbrev pub verdict_number : Verdict → ℕ
verdict_number (Ok u) = 0
verdict_number (Err r) = number_of r
