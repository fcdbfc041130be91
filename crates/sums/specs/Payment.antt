-- Steps 5 and 6 of the sum: what is paid of a gross value.
-- Assumes nothing.
use Rattle.std.specs.Prelude.{ℕ, ◌+◌, max, cond}
use Rattle.cases.specs.Flags.{transfer_flag}
use Rattle.cases.specs.declared.Case.{Case}

-- the underpin (003, 2.26): what was transferred in, with own contributions; 0 without the transfer flag
unfoldable pub underpin : Case → ℕ
underpin c = cond (transfer_flag c.flags) (c.transfer + c.contributions) 0

-- 5: the gross value, or the underpin where that is larger. Kinds 1 and 3 may not have the transfer flag, so their underpin is 0 and
-- they pay the gross value itself (the laws section_1995_paid and section_2008_paid). 6: then the AVC comes on top (a house rule)
unfoldable pub payment : Case → ℕ → ℕ
payment c g = max g (underpin c) + c.avc
