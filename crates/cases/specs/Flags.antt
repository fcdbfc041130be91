-- The flags of a case, a byte: 1 is a transfer in, 2 a guaranteed minimum pension (GMP), 4 a Choice Optant. No other bit is used.
-- Assumes nothing.
use Rattle.std.specs.Prelude.{ℕ, ◌%◌, ◌/◌, Bool, not, eqb}

abbrev pub transfer_flag : ℕ → Bool
transfer_flag flags = eqb (flags % 2) 1

abbrev pub gmp_flag : ℕ → Bool
gmp_flag flags = eqb (flags / 2 % 2) 1

-- a Choice Optant (001, 2.21 and 2.22), who has to give up part of the pension for a lump sum: that mandatory lump sum is entered, and
-- the pension that is left
abbrev pub choice_optant_flag : ℕ → Bool
choice_optant_flag flags = eqb (flags / 4 % 2) 1

abbrev pub unused_flag : ℕ → Bool
unused_flag flags = not (eqb (flags / 8) 0)
