-- What holds of every refusal, by one test that runs over the variants as the enum declares them.
-- Assumes nothing.
use Rattle.std.proofs.Common.{Bool, true, false, ◌&&◌, true≢false, List, [], ◌∷◌, inl, inr, ◌≡◌, sym, ap, ◌∙◌}
use Rattle.std.proofs.Math.Bool.{and-eq-true_iff}
use denote.Enum.Declared.{Choice}
use denote.Struct.Field.{Field}
use Rattle.refusals.specs.declared.Refusal.{Refusal}
use Rattle.refusals.specs.contracts.Refusal.{the_parts as parts, as_values, the_make as make, the_eta as eta}

-- a test of each variant in turn, none of which holds a field; std has no other names for a declaration's variants and fields
abbrev all_of : (variants : List (List Field)) → (Choice variants → Bool) → Bool
all_of [] t = true
all_of ([] ∷ vs) t = t (inl tt) && all_of vs (λ v. t (inr v))
all_of ((f ∷ fs) ∷ vs) t = false

all_hold : (vs : List (List Field)) (t : Choice vs → Bool) → all_of vs t ≡ true → (v : Choice vs) → t v ≡ true
all_hold [] t e v = absurd v
all_hold ([] ∷ vs) t e (inl tt) = ((and-eq-true_iff (t (inl tt)) (all_of vs (λ w. t (inr w)))).0 e).0
all_hold ([] ∷ vs) t e (inr v) = all_hold vs (λ w. t (inr w)) ((and-eq-true_iff (t (inl tt)) (all_of vs (λ w. t (inr w)))).0 e).1 v
all_hold ((f ∷ fs) ∷ vs) t e v = absurd (true≢false (sym e))

module _ (t : Refusal → Bool) where
  -- which computes
  abbrev pub Every : Type 0
  Every = all_of parts (λ v. t (make v)) ≡ true

  pub each : Every → (r : Refusal) → t r ≡ true
  each e r = ap t (sym (eta r)) ∙ all_hold parts (λ v. t (make v)) e (as_values r)
