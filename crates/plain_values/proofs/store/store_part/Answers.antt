use Rattle.std.proofs.Common.{sym, arith, w32}
use mir.Val.{to_z, of_z}
use Rattle.loc_base.specs.Bits.{width_of, value_of}
use Rattle.design_core.specs.Operator.{integer_of}
use Rattle.design_core.specs.WellFormed.{words_fit, typed_fits}
use Rattle.plain_values.proofs.EvaluateWords.{words-length}
use Rattle.plain_values.proofs.EvaluateValue.{word_at-within, words-within}
use Rattle.plain_values.proofs.EvaluateStore.{word-within, signal-width, part_slice-within, first_test}
use Rattle.plain_values.proofs.store.store_part.Goals as goal

pub write-requires-clause-within : goal.write-requires-clause-within
write-requires-clause-within c =
    word-within c.args.signals.now c.args.words.now c.in-Whole.signal _ c.requires.words (omega (arith, signal-width c.args.signals.now c.in-Whole.signal c.signal_at.result.now c.signal_at.ensures))

pub write-requires-in-Slice-clause-within : goal.write-requires-in-Slice-clause-within
write-requires-in-Slice-clause-within c =
    word-within c.args.signals.now c.args.words.now c.in-Slice.signal _ c.requires.words
    (part_slice-within c.args.signals.now c.in-Slice.signal c.in-Slice.from c.in-Slice.width (rw c.in-Slice.is at c.requires.fits))

pub write-requires-in-Some-clause-signal : goal.write-requires-in-Some-clause-signal
write-requires-in-Some-clause-signal c =
    let fits = first_test (words_fit c.args.signals.now c.in-Word.first c.in-Word.count c.in-Word.from c.in-Word.width) (typed_fits c.args.signals.now c.in-Word.index) (rw c.in-Word.is at c.requires.fits) in
    let place = word_at-within c.in-Word.first c.in-Word.count c.in-Some.signal (to_z w32 (of_z w32 c.in-Word.low)) (integer_of c.in-Word.index.signed (width_of c.args.at) (value_of c.args.at)) (sym c.in-Some.ensures) in
    let within = words-within c.args.signals.now c.in-Word.first c.in-Word.count c.in-Word.from c.in-Word.width c.in-Some.signal fits place.0 place.1 in
    omega (arith, within.0, words-length c.args.signals.now c.args.words.now c.requires.words)

pub write-requires-in-Some-clause-within : goal.write-requires-in-Some-clause-within
write-requires-in-Some-clause-within c =
    let fits = first_test (words_fit c.args.signals.now c.in-Word.first c.in-Word.count c.in-Word.from c.in-Word.width) (typed_fits c.args.signals.now c.in-Word.index) (rw c.in-Word.is at c.requires.fits) in
    let place = word_at-within c.in-Word.first c.in-Word.count c.in-Some.signal (to_z w32 (of_z w32 c.in-Word.low)) (integer_of c.in-Word.index.signed (width_of c.args.at) (value_of c.args.at)) (sym c.in-Some.ensures) in
    let within = words-within c.args.signals.now c.in-Word.first c.in-Word.count c.in-Word.from c.in-Word.width c.in-Some.signal fits place.0 place.1 in
    word-within c.args.signals.now c.args.words.now c.in-Some.signal _ c.requires.words within.1
