-- Tests and facts of the members of a list.
-- Assumes nothing.
use Rattle.std.specs.Prelude.{Bool, List, [], ◌∷◌}
use Rattle.std.specs.List.{list_any}

-- whether t holds of any member; of every member is std's `list_all`
abbrev pub any : {A : Type 0} → (A → Bool) → List A → Bool
any = list_any

-- P of each member, as a tuple, whose parts omega reads: std's All is a function of places
abbrev pub Each : {A : Type 0} → List A → (A → Type 0) → Type 0
Each [] P = Unit
Each (x ∷ xs) P = P x × Each xs P
