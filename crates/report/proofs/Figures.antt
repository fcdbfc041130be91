-- The report of three blocks: a payment of kind 1, one of kind 2, and a block that is refused; and what forming a line answers.
-- Assumes nothing.
use Rattle.std.proofs.Common.{◌≡◌, refl, codes, map}
use Rattle.buffers.specs.Decimal.{last_digits, digits_within, decimal}
use Rattle.refusals.specs.declared.Refusal.TheVariants.{Kind}
use Rattle.answers.specs.declared.Answer.{Answer}
use Rattle.answers.specs.declared.Outcome.TheVariants.{Paid, Refused}
use Rattle.report.specs.Lines.{paid_text, refused_text, line_of, end_line}
use Rattle.report.specs.Forming.{formed_as}
use Rattle.report.specs.Figures.{forming_figures}

abbrev first : Answer
first =
    record {
      number = 1;
      outcome =
          Paid
          (record {
            payment = 13686893;
            pension = 1179216000;
            lump = 143640000;
            survivor = 48179250;
            deduction = 2346000;
            underpin = 0;
            avc = 0;
          });
    }

abbrev second : Answer
second =
    record {
      number = 2;
      outcome =
          Paid
          (record {
            payment = 2590081;
            pension = 247045500;
            lump = 0;
            survivor = 11962552;
            deduction = 0;
            underpin = 0;
            avc = 0;
          });
    }

abbrev third : Answer
third = record { number = 0; outcome = Refused Kind }

pub first_block : line_of 1 first ≡ codes "1 1 pay 136868.93 pension 117921.6000 lump 14364.0000 survivor 4817.9250 deduct 234.6000 underpin 0.00 avc 0.00\n"
unfolding line_of paid_text decimal digits_within last_digits
first_block = refl

pub second_block : line_of 2 second ≡ codes "2 2 pay 25900.81 pension 24704.5500 lump 0.0000 survivor 1196.2552 deduct 0.0000 underpin 0.00 avc 0.00\n"
unfolding line_of paid_text decimal digits_within last_digits
second_block = refl

pub third_block : line_of 3 third ≡ codes "3 0 refused 3 kind\n"
unfolding line_of refused_text decimal digits_within
third_block = refl

pub end : end_line 3 2 ≡ codes "end 3 blocks 2 paid\n"
unfolding end_line decimal digits_within
end = refl

pub end_of_nothing : end_line 0 0 ≡ codes "end 0 blocks 0 paid\n"
unfolding end_line decimal digits_within
end_of_nothing = refl

pub forming_figures_hold : map (λ r. r.worked) forming_figures ≡ map (λ r. r.stated) forming_figures
unfolding formed_as line_of refused_text decimal digits_within
forming_figures_hold = refl
