-- What is paid where there is no underpin.
-- Assumes nothing.
use Rattle.std.proofs.Common.{ℕ, ◌+◌, false, ◌≡◌, arith}
use Rattle.cases.specs.Flags.{transfer_flag}
use Rattle.cases.specs.declared.Case.{Case}
use Rattle.sums.specs.Payment.{underpin, payment}

-- without the transfer flag, the gross value and the AVC
pub payment_unflagged : (c : Case) (g : ℕ) → transfer_flag c.flags ≡ false → payment c g ≡ g + c.avc
unfolding payment underpin
payment_unflagged c g e = rw e (omega arith)
