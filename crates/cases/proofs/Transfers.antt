-- Where refusal 4 does not apply, a kind without transfers has no transfer flag.
-- Assumes nothing.
use Rattle.std.proofs.Common.{false, not, ◌&&◌, ◌||◌, [], ◌∷◌, ◌≡◌, refl}
use Rattle.numbers.proofs.Tests.{and_right_false, or_false, none_holds}
use Rattle.calendar.specs.Dates.{is_zero}
use Rattle.cases.specs.Entries.{any_line}
use Rattle.cases.specs.Flags.{transfer_flag, gmp_flag, choice_optant_flag, unused_flag}
use Rattle.cases.specs.Kinds.{rules_of}
use Rattle.cases.specs.Form.{filled, line_reserved_fault, head_reserved_fault, reserved_fault}
use Rattle.cases.specs.declared.Case.{Case}

pub no_transfer_flag : (c : Case) → (rules_of c.kind).transfers ≡ false → reserved_fault c ≡ false → transfer_flag c.flags ≡ false
unfolding reserved_fault head_reserved_fault
no_transfer_flag c k e =
    let f = c.flags in
    let rules = rules_of c.kind in
    let barred = transfer_flag f || filled c.contributions in
    let head = (or_false (head_reserved_fault c) (any_line (line_reserved_fault rules f c.count) c) e).0 in
    let tests =
    none_holds (unused_flag f)
    ((not (gmp_flag f) && not (is_zero c.state_pension)) ∷ (not (transfer_flag f) && filled c.transfer) ∷ (not rules.transfers && barred) ∷
    (not rules.choice_optants && choice_optant_flag f) ∷ (not rules.sex && filled c.sex) ∷ [])
    head in
    (or_false (transfer_flag f) (filled c.contributions) (and_right_false (not rules.transfers) barred (rw k refl) tests.1.1.1.0)).0
