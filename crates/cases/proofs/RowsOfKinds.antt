-- The rows of the kinds: what one test that antt computes over all of them gives of any kind.
-- Assumes nothing.
use Rattle.std.proofs.Common.{ℕ, zero, suc, ◌≤◌, ◌<◌, ◌≡◌, refl, sym, arith, leb, length, leb-true}
use Rattle.std.proofs.Math.ListN.{get_or-eq_default}
use Rattle.numbers.proofs.Lists.{every_at}
use Rattle.cases.specs.Kinds.{no_kind, kinds, rules_of}

-- a kind that is none of those listed
pub no_row : (k : ℕ) → (0 < k → length kinds ≤ k) → no_kind ≡ rules_of k
unfolding rules_of
no_row zero past = refl
no_row (suc k) past = sym (get_or-eq_default kinds no_kind (past (omega arith)))

pub four_lines : (k : ℕ) → (rules_of k).lines ≤ 4
unfolding rules_of
four_lines = every_at {P = λ r. r.lines ≤ 4} (λ r. leb r.lines 4) kinds no_kind (λ r. leb-true r.lines 4) (omega arith) refl
