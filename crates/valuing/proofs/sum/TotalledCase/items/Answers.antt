use Rattle.std.proofs.Common.{Ok, sym, refl}
use Rattle.refusals.proofs.Order.{passed, passed_number}
use Rattle.refusals.specs.declared.Refusal.TheVariants.{Negative, Award}
use Rattle.sums.specs.Rows.{factors_of}
use Rattle.sums.specs.Sum.{negative_fault, first_value, award_fault, gross_by}
use Rattle.answers.specs.Answer.{gross_of}
use Rattle.valuing.specs.Totals.{unless_award}
use Rattle.valuing.proofs.Settled.{debit_is, items_are}
use Rattle.valuing.proofs.sum.TotalledCase.items.Goals as goal

pub returns : goal.returns
unfolding gross_of gross_by
returns c =
    let case = c.args.self.now.formed.case.now in
    let f = factors_of case in
    let totalled = c.args.self.now.totalled in
    let negative = passed (negative_fault f case) Negative (unless_award case (Ok (gross_of case))) c.in_ok-gross.ensures.value in
    let award = passed_number (award_fault f case) Award (gross_of case) (sym negative.1) in
    rw (← items_are _ _ totalled (first_value f case) refl, negative.0, award.0, debit_is _ _ totalled, award.1, c.payment.ensures, c.underpin.ensures.sum)
