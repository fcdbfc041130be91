use Rattle.std.proofs.Common.{◌≡◌, ◌+◌, ◌-◌, ◌*◌, ap, ◌∙◌, arith}
use Rattle.blocks.specs.Words.{odd_bytes, word_at, odd_at}
use Rattle.blocks.proofs.Sums.{sums_none, sums_back, sums_all}
use Rattle.blocks.proofs.Words.{row_within, word_parts, word_odd}
use Rattle.blocks.proofs.column.Column.add.Goals as goal

pub loop-row-init : goal.loop-row-init
loop-row-init c =
    let none = c.default-sums.ensures in
    (sums_none _ _ _ (omega arith) none.0.0 none.0.1, sums_none _ _ _ (omega arith) none.1.0 none.1.1)

pub loop-row-preserved : goal.loop-row-preserved
loop-row-preserved c =
    let s = c.args.b.now in
    let row = c.loop-row.row in
    let p = c.args.self.start + c.args.self.stride * (row - 1) in
    let word : c.word_at-word.result ≡ word_at s p =
    (rw (c.from.ensures, c.from-in-loop-row.ensures) at c.word_at-word.ensures) ∙ word_parts s p (omega (arith, row_within c.args.self.stride c.args.self.count (row - 1) (omega arith))) in
    let odd : c.odd_bytes.result ≡ odd_at s p =
    c.odd_bytes.ensures ∙ ap odd_bytes word ∙ word_odd s p (λ q. omega (arith, c.fits-b q)) in (
      rw c.with_first-sums.ensures (sums_back (λ k. word_at s (c.args.self.start + c.args.self.stride * k)) c.args.self.count row c.word_at-word.result c.loop-row.sums.words (omega arith) (omega arith) word c.loop-row.invariant.0),
      rw c.with_first-sums-in-loop-row.ensures (sums_back (λ k. odd_at s (c.args.self.start + c.args.self.stride * k)) c.args.self.count row c.odd_bytes.result c.loop-row.sums.odd (omega arith) (omega arith) odd c.loop-row.invariant.1),
    )

pub returns-clause-odd : goal.returns-clause-odd
returns-clause-odd c =
    let s = c.args.b.now in
    sums_all (λ k. odd_at s (c.args.self.start + c.args.self.stride * k)) c.args.self.count c.loop-row.row c.loop-row.sums.odd (omega arith) c.loop-row.invariant.1
