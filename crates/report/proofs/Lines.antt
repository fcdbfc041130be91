-- No line is longer than 256 bytes.
-- Assumes nothing.
use Rattle.std.proofs.Common.{ℕ, ◌+◌, ◌*◌, ◌/◌, ◌^◌, ◌≤◌, ◌<◌, div-lt_iff_lt-mul, arith, lit<, lit≤, length, length-append}
use Rattle.std.proofs.Math.Nat.{one-le-pow}
use Rattle.buffers.specs.Decimal.{decimal}
use Rattle.buffers.proofs.Decimal.{decimal_short, length_digits}
use Rattle.refusals.proofs.Naming.{name_short, number_short}
use Rattle.refusals.specs.Refusals.{number_of}
use Rattle.refusals.specs.declared.Refusal.{Refusal}
use Rattle.answers.specs.declared.Answer.{Answer}
use Rattle.answers.specs.declared.Items.{Items}
use Rattle.answers.specs.declared.Outcome.{Outcome}
use Rattle.answers.specs.declared.Outcome.TheVariants.{Paid, Refused}
use Rattle.report.specs.Lines.{paid_text, refused_text, outcome_text, line_of, end_line}

-- items of 64 bits each
pub record Sized (i : Items) : Type 0 where
  pub payment : i.payment < 2 ^ 64
  pub pension : i.pension < 2 ^ 64
  pub lump : i.lump < 2 ^ 64
  pub survivor : i.survivor < 2 ^ 64
  pub deduction : i.deduction < 2 ^ 64
  pub underpin : i.underpin < 2 ^ 64
  pub avc : i.avc < 2 ^ 64

abbrev pub SizedOutcome : Outcome → Type 0
SizedOutcome (Paid i) = Sized i
SizedOutcome (Refused r) = Unit

-- pounds of at most m digits, from units of which 10 ^ d make a pound
pounds_short : (m d n : ℕ) → 1 ≤ m → n < 10 ^ m * 10 ^ d → length (decimal (n / 10 ^ d)) ≤ m
pounds_short m d n h l = decimal_short m (n / 10 ^ d) h ((div-lt_iff_lt-mul {k = 10 ^ d} {x = n} {y = 10 ^ m} (one-le-pow d 10 (lit< tt))).1 l)

two_decimals : (n : ℕ) → n < 2 ^ 64 → length (decimal (n / 100)) + 2 ≤ 20
two_decimals n h = omega (arith, pounds_short 18 2 n (lit≤ tt) (omega arith))

four_decimals : (n : ℕ) → n < 2 ^ 64 → length (decimal (n / 10000)) + 4 ≤ 20
four_decimals n h = omega (arith, pounds_short 16 4 n (lit≤ tt) (omega arith))

paid_short : (i : Items) → Sized i → length (paid_text i) ≤ 201
unfolding paid_text
paid_short i s =
    simp (length-append, length_digits)
    (omega (
      arith,
      two_decimals i.payment s.payment,
      four_decimals i.pension s.pension,
      four_decimals i.lump s.lump,
      four_decimals i.survivor s.survivor,
      four_decimals i.deduction s.deduction,
      two_decimals i.underpin s.underpin,
      two_decimals i.avc s.avc,
    ))

refused_short : (r : Refusal) → length (refused_text r) ≤ 29
unfolding refused_text
refused_short r = simp length-append (omega (arith, name_short r, decimal_short 2 (number_of r) (lit≤ tt) (number_short r)))

outcome_short : (o : Outcome) → SizedOutcome o → length (outcome_text o) ≤ 201
outcome_short (Paid i) s = paid_short i s
outcome_short (Refused r) s = omega (arith, refused_short r)

-- the line of any place and case number of 32 bits and any amounts of 64 bits
pub line_short : (place : ℕ) (a : Answer) → place < 2 ^ 32 → a.number < 2 ^ 32 → SizedOutcome a.outcome → length (line_of place a) ≤ 222
unfolding line_of
line_short place a p n s =
    let o = outcome_short a.outcome s in
    simp length-append (omega (arith, decimal_short 10 place (lit≤ tt) (omega arith), decimal_short 10 a.number (lit≤ tt) (omega arith)))

-- the end line of any counts of 32 bits
pub end_short : (blocks paid : ℕ) → blocks < 2 ^ 32 → paid < 2 ^ 32 → length (end_line blocks paid) ≤ 38
unfolding end_line
end_short blocks paid b p =
    simp length-append (omega (arith, decimal_short 10 blocks (lit≤ tt) (omega arith), decimal_short 10 paid (lit≤ tt) (omega arith)))
