-- Codes are numbered from 1: where n is the last, a code from 1 to n is listed, and one below 1 or past n is not. No proof cites these;
-- docs/MAP.md names them.
-- Assumes nothing.
use Rattle.std.proofs.Common.{ℕ, ◌≤◌, ◌<◌, true, false, ◌&&◌, ◌≡◌, leb, le-leb}
use Rattle.std.proofs.lemmas.Bool.{lt-leb}

module _ (n x : ℕ) where
  pub code_listed : 1 ≤ x → x ≤ n → true ≡ (leb 1 x && leb x n)
  code_listed p q = rw (le-leb 1 x p, le-leb x n q)

  pub code_below : x < 1 → false ≡ (leb 1 x && leb x n)
  code_below p = rw (lt-leb 1 x p)

  pub code_past : 1 ≤ x → n < x → false ≡ (leb 1 x && leb x n)
  code_past p q = rw (le-leb 1 x p, lt-leb x n q)
