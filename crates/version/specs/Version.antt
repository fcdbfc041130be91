-- The version.
-- Assumes nothing.
use Rattle.std.specs.Prelude.{ℕ, ◌/◌, ◌%◌, List, ◌++◌, codes}
use Rattle.buffers.specs.Decimal.{decimal}

-- the first of its three numbers times 10,000, the second times 100, and the third
abbrev pub version_number : ℕ
version_number = 10000

-- the line that `values --version` prints
unfoldable pub version_line : List ℕ
version_line =
    codes "values " ++
    decimal (version_number / 10000) ++
    codes "." ++
    decimal (version_number / 100 % 100) ++
    codes "." ++
    decimal (version_number % 100) ++
    codes "\n"
