-- The laws of the order of dates.
-- Assumes nothing.
use Rattle.std.proofs.Common.{ℕ, ◌<◌, ◌≡◌, refl, true, false, arith, ltb, Some}
use Rattle.std.proofs.lemmas.Cmp.{on_total, then_total, nat_cmp_total}
use Rattle.std.specs.Cmp.{IsTotalOrder, Some-then}
use Rattle.std.specs.Ordering.{nat_cmp, ordering_then}
use Rattle.std.specs.declared.cmp.Ordering.{Ordering}
use Rattle.std.specs.declared.cmp.Ordering.TheVariants.{Less}
use Rattle.calendar.specs.declared.Date.{Date}
use Rattle.calendar.specs.Dates.{rank, date_cmp, before}

-- month and day are bytes, as in every date that four bytes hold
pub record Bytes (d : Date) : Type 0 where
  pub month : d.month < 256
  pub day : d.day < 256

pub earlier_year : (d e : Date) → d.year < e.year → before d e ≡ true
earlier_year d e h = grind arith

pub later_year : (d e : Date) → e.year < d.year → before d e ≡ false
later_year d e h = grind arith

-- any two dates can be compared
order : Date → Date → Ordering
order d e = ordering_then (nat_cmp d.year e.year) (ordering_then (nat_cmp d.month e.month) (nat_cmp d.day e.day))

compared : (d e : Date) → date_cmp d e ≡ Some (order d e)
unfolding order
compared d e =
    rw (Some-then (nat_cmp d.month e.month) (nat_cmp d.day e.day))
    (Some-then (nat_cmp d.year e.year) (ordering_then (nat_cmp d.month e.month) (nat_cmp d.day e.day)))

order_total : IsTotalOrder order
unfolding order
order_total = then_total (on_total (λ d. d.year) nat_cmp_total) (then_total (on_total (λ d. d.month) nat_cmp_total) (on_total (λ d. d.day) nat_cmp_total))

less : (d e : Date) → before d e ≡ true → order d e ≡ Less
less d e h = grind (arith, compared d e)

pub before_transitive : (d e f : Date) → before d e ≡ true → before e f ≡ true → before d f ≡ true
before_transitive d e f p q = rw (compared d f, order_total.trans d e f (less d e p) (less e f q)) refl

-- of dates whose month and day are bytes the order is that of their ranks
pub before_by_rank : (d e : Date) → Bytes d → Bytes e → before d e ≡ ltb (rank d) (rank e)
unfolding order
before_by_rank d e a b = rw (compared d e, by_rank) (grind arith)
  where
    -- a first part decides for the whole, or leaves it to the rest
    decided : (x y : ℕ) (rest : Ordering) → (x < y → rank d < rank e) → (y < x → rank e < rank d) → (x ≡ y → rest ≡ nat_cmp (rank d) (rank e)) → ordering_then (nat_cmp x y) rest ≡ nat_cmp (rank d) (rank e)
    decided x y rest f g h = grind arith

    by_rank : order d e ≡ nat_cmp (rank d) (rank e)
    by_rank =
        decided d.year e.year _ (λ h. omega arith) (λ h. omega arith)
        (λ y. decided d.month e.month _ (λ h. omega arith) (λ h. omega arith)
        (λ m. grind arith))
