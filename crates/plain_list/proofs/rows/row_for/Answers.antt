use Rattle.std.proofs.Common.{◌<◌, ◌∙◌, sym, subst, arith}
use Rattle.plain_list.proofs.Assigning.{AreNumbersFor-length}
use Rattle.plain_list.proofs.Trying.{number-range, take-all}
use Rattle.plain_list.proofs.Rowing.{row-next}
use Rattle.plain_list.proofs.rows.row_for.Goals as goal

pub bounds-numbers-i : goal.bounds-numbers-i
bounds-numbers-i c = subst (λ n. c.loop-i.i < n) (AreNumbersFor-length c.args.d.now c.args.places.now c.args.numbers.now c.requires.numbers) c.loop-i-test.true

pub word_for-requires-clause-range : goal.word_for-requires-clause-range
word_for-requires-clause-range c = number-range c.args.d.now c.args.places.now c.args.numbers.now c.loop-i.i c.requires.numbers c.loop-i-test.true

pub loop-i-preserved : goal.loop-i-preserved
loop-i-preserved c =
    row-next c.args.d.now c.args.places.now c.args.numbers.now c.loop-i.row.items c.push.new.self.items c.word_for.result c.loop-i.i c.loop-i-test.true
    (AreNumbersFor-length c.args.d.now c.args.places.now c.args.numbers.now c.requires.numbers) c.loop-i.invariant
    c.in_ok-push.ensures.items c.word_for.ensures.width c.word_for.ensures.value

pub returns-clause-value : goal.returns-clause-value
returns-clause-value c =
    c.loop-i.invariant.1
    ∙ take-all c.args.numbers.now c.loop-i.i
    (sym (AreNumbersFor-length c.args.d.now c.args.places.now c.args.numbers.now c.requires.numbers) ∙ omega (arith, c.loop-i-test.false, c.loop-i.auto.i-end))
