use Rattle.std.proofs.Common.{◌≡◌, ℕ, List, length, arith, sym, ◌∙◌, rules, ap}
use Rattle.std.specs.Prelude.{Some, None, ℤ, if◌then◌else◌, ◌==◌, not, true, false}
use Rattle.std.proofs.Common.{w32}
use Rattle.std.proofs.lemmas.Int.{to_z-of_z}
use mir.Val.{SFits, to_z, of_z}
use Rattle.loc_base.specs.Bits.{width_of, value_of}
use denote.Hole.Carrier.{hidden}
use Rattle.std.proofs.lemmas.Grind.{common_steps}
use Rattle.design_core.specs.declared.expression.Node.TheBlock.{shape-the_row-Typed-0, hidden-the_row-Typed-0}
use Rattle.design_core.specs.declared.expression.Node.TheViews.{the_lemmas}
use Rattle.design_core.specs.declared.signal.Signal.{Signal}
use Rattle.design_core.specs.declared.expression.Typed.{Typed}
use Rattle.design_core.specs.Operator.{integer_of, is_true, unary, binary, repeated}
use Rattle.design_core.specs.Valuation.{Valuation, number, word_at}
use Rattle.design_core.specs.Value.{value, word_value, index_value, picked}
use Rattle.design_core.specs.Words.{valuation_of}
use Rattle.plain_values.specs.Evaluate.{parts_sum, join_parts}
use Rattle.plain_values.proofs.EvaluateWords.{word-width, words-length, number-word, number-word_part}
use Rattle.plain_values.proofs.EvaluateNodes.{unary-fits, unary-arg, binary-fits, both-fit, takes-fits, choose-widths, choose-test, choose-second, choose-last, repeat-fits, pick-width, word-index}
use Rattle.plain_values.proofs.EvaluateTests.{not-holds, equal-holds, not_equal-holds, and-holds, or-holds}
use Rattle.plain_values.proofs.EvaluateParts.{join-value, join-fits}
use Rattle.plain_values.proofs.EvaluateValue.{slice-within, whole-width, array-fits, word_at-within, words-within}
use Rattle.plain_values.proofs.expression.+value.Goals as goal

pub computed-part-requires-clause-within : goal.computed-part-requires-clause-within
computed-part-requires-clause-within t c =
    let fits = slice-within c.args.signals.now c.in-Slice.signal c.in-Slice.from c.in-Slice.width c.args.e.now.width (rw c.in-Slice.is at c.requires.fits) in
    omega (arith, fits.0, word-width _ _ _ _ c.requires.words c.word_at-in-Slice.ensures)

pub computed-joined-requires : goal.computed-joined-requires
computed-joined-requires t c =
    let fits = join-fits c.args.signals.now c.args.e.now.width c.args.e.now.signed c.in-Join.parts (rw c.in-Join.is at c.requires.fits) in
    let items = c.deref-in-Join.ensures in
    (search (rules, the_lemmas), (c.requires.words, (rw items fits.fits, (rw items fits.some, rw items (omega (arith, fits.width, fits.most))))))

pub computed-returns-in-Join-clause-width : goal.computed-returns-in-Join-clause-width
computed-returns-in-Join-clause-width t c =
    let fits = join-fits c.args.signals.now c.args.e.now.width c.args.e.now.signed c.in-Join.parts (rw c.in-Join.is at c.requires.fits) in
    c.joined.ensures.width ∙ ap parts_sum c.deref-in-Join.ensures ∙ fits.width

pub computed-returns-in-Join-clause-value : goal.computed-returns-in-Join-clause-value
computed-returns-in-Join-clause-value t c =
    let V : Valuation = valuation_of c.args.words.now in
    rw c.in-Join.is
    (c.joined.ensures.value
    ∙ ap (join_parts c.args.signals.now V 0) c.deref-in-Join.ensures
    ∙ sym (join-value c.args.signals.now V c.args.e.now.width c.in-Join.parts))

pub computed-returns-in-Whole-clause-width : goal.computed-returns-in-Whole-clause-width
computed-returns-in-Whole-clause-width t c =
    whole-width c.args.signals.now c.args.words.now c.in-Whole.signal c.args.e.now.width c.word_at.result c.requires.words c.word_at.ensures (rw c.in-Whole.is at c.requires.fits)

pub computed-returns-in-Whole-clause-value : goal.computed-returns-in-Whole-clause-value
computed-returns-in-Whole-clause-value t c =
    let width = whole-width c.args.signals.now c.args.words.now c.in-Whole.signal c.args.e.now.width c.word_at.result c.requires.words c.word_at.ensures (rw c.in-Whole.is at c.requires.fits) in
    rw c.in-Whole.is
    (sym (number-word c.args.words.now c.in-Whole.signal c.word_at.result c.word_at.ensures)
    ∙ ap (λ w. number w (valuation_of c.args.words.now c.in-Whole.signal)) width)

pub value-returns-in-Whole-clause-width : goal.value-returns-in-Whole-clause-width
value-returns-in-Whole-clause-width t c =
    whole-width c.args.signals.now c.args.words.now c.in-Whole.signal c.args.e.now.width c.word_at.result c.requires.words c.word_at.ensures (rw c.in-Whole.is at c.requires.fits)

pub value-returns-in-Whole-clause-value : goal.value-returns-in-Whole-clause-value
value-returns-in-Whole-clause-value t c =
    let width = whole-width c.args.signals.now c.args.words.now c.in-Whole.signal c.args.e.now.width c.word_at.result c.requires.words c.word_at.ensures (rw c.in-Whole.is at c.requires.fits) in
    rw c.in-Whole.is
    (sym (number-word c.args.words.now c.in-Whole.signal c.word_at.result c.word_at.ensures)
    ∙ ap (λ w. number w (valuation_of c.args.words.now c.in-Whole.signal)) width)

pub computed-returns-in-Slice-clause-value : goal.computed-returns-in-Slice-clause-value
computed-returns-in-Slice-clause-value t c =
    rw c.in-Slice.is
    (c.part.ensures.value
    ∙ sym (number-word_part c.args.words.now c.in-Slice.signal c.in-Slice.from c.in-Slice.width c.word_at-in-Slice.result c.word_at-in-Slice.ensures))

pub selected-word_at-requires : goal.selected-word_at-requires
unfolding shape-the_row-Typed-0 hidden-the_row-Typed-0 hidden
selected-word_at-requires t c =
    let fits = array-fits c.args.signals.now c.in-Word.first c.in-Word.count c.in-Word.from c.in-Word.width c.args.e.now.width _ (rw c.in-Word.is at c.requires.fits) in
    let place = word_at-within c.in-Word.first c.in-Word.count c.in-Some.signal (to_z w32 (of_z w32 c.in-Word.low))
    (integer_of c.deref-in-Word-2.result.now.signed (width_of c.value-at-in-Word.result) (value_of c.value-at-in-Word.result)) (sym c.in-Some.ensures) in
    let within = words-within c.args.signals.now c.in-Word.first c.in-Word.count c.in-Word.from c.in-Word.width c.in-Some.signal fits place.0 place.1 in
    omega (arith, within.0, words-length c.args.signals.now c.args.words.now c.requires.words)

pub selected-part-requires-clause-within : goal.selected-part-requires-clause-within
unfolding shape-the_row-Typed-0 hidden-the_row-Typed-0 hidden
selected-part-requires-clause-within t c =
    let fits = array-fits c.args.signals.now c.in-Word.first c.in-Word.count c.in-Word.from c.in-Word.width c.args.e.now.width _ (rw c.in-Word.is at c.requires.fits) in
    let place = word_at-within c.in-Word.first c.in-Word.count c.in-Some.signal (to_z w32 (of_z w32 c.in-Word.low))
    (integer_of c.deref-in-Word-2.result.now.signed (width_of c.value-at-in-Word.result) (value_of c.value-at-in-Word.result)) (sym c.in-Some.ensures) in
    let within = words-within c.args.signals.now c.in-Word.first c.in-Word.count c.in-Word.from c.in-Word.width c.in-Some.signal fits place.0 place.1 in
    omega (arith, within.1, word-width c.args.signals.now c.args.words.now c.in-Some.signal c.word_at.result c.requires.words c.word_at.ensures)

pub selected-returns-in-Some-clause-value : goal.selected-returns-in-Some-clause-value
unfolding shape-the_row-Typed-0 hidden-the_row-Typed-0 hidden
selected-returns-in-Some-clause-value t c =
    let V : Valuation = valuation_of c.args.words.now in
    let low : SFits w32 c.in-Word.low = search rules in
    let address : ℤ = integer_of c.deref-in-Word-2.result.now.signed (width_of c.value-at-in-Word.result) (value_of c.value-at-in-Word.result) in
    let found : Some c.in-Some.signal ≡ word_at c.in-Word.first c.in-Word.count c.in-Word.low address = simp to_z-of_z at c.in-Some.ensures in
    let width : width_of c.value-at-in-Word.result ≡ c.in-Word.index.width = c.value-at-in-Word.ensures.width ∙ ap (λ e. e.width) c.deref-in-Word.ensures in
    let number : value_of c.value-at-in-Word.result ≡ value c.args.signals.now V c.in-Word.index =
    c.value-at-in-Word.ensures.value ∙ ap (value c.args.signals.now V) c.deref-in-Word.ensures in
    let same : address ≡ index_value c.args.signals.now V c.in-Word.index =
    ap (λ e. integer_of e.signed (width_of c.value-at-in-Word.result) (value_of c.value-at-in-Word.result)) c.deref-in-Word-2.ensures
    ∙ ap (λ w. integer_of c.in-Word.index.signed w (value_of c.value-at-in-Word.result)) width
    ∙ ap (λ n. integer_of c.in-Word.index.signed c.in-Word.index.width n) number in
    rw c.in-Word.is
    (c.part.ensures.value
    ∙ sym (number-word_part c.args.words.now c.in-Some.signal c.in-Word.from c.in-Word.width c.word_at.result c.word_at.ensures)
    ∙ ap (word_value V c.in-Word.from c.in-Word.width) (found ∙ ap (word_at c.in-Word.first c.in-Word.count c.in-Word.low) same))

pub selected-value-at-requires : goal.selected-value-at-requires
unfolding shape-the_row-Typed-0 hidden-the_row-Typed-0 hidden
selected-value-at-requires t c = search (rules, the_lemmas)

pub selected-picked-requires-clause-signal : goal.selected-picked-requires-clause-signal
unfolding shape-the_row-Typed-0 hidden-the_row-Typed-0 hidden
selected-picked-requires-clause-signal t c = first_of (search rules, grind (arith, common_steps))

pub selected-picked-requires-clause-offsets : goal.selected-picked-requires-clause-offsets
unfolding shape-the_row-Typed-0 hidden-the_row-Typed-0 hidden
selected-picked-requires-clause-offsets t c = first_of (search rules, grind (arith, common_steps))

pub selected-value-at-requires-in-Word : goal.selected-value-at-requires-in-Word
unfolding shape-the_row-Typed-0 hidden-the_row-Typed-0 hidden
selected-value-at-requires-in-Word t c =
    let fits = word-index c.args.signals.now c.args.e.now.width c.in-Word.first c.in-Word.count c.args.e.now.signed c.in-Word.low c.in-Word.index c.in-Word.from c.in-Word.width (rw c.in-Word.is at c.requires.fits) in
    (search (rules, the_lemmas), (c.requires.words, rw c.deref-in-Word.ensures fits))

pub selected-part-requires-clause-least : goal.selected-part-requires-clause-least
unfolding shape-the_row-Typed-0 hidden-the_row-Typed-0 hidden
selected-part-requires-clause-least t c = first_of (search rules, grind (arith, common_steps))

pub selected-zero-requires-clause-least : goal.selected-zero-requires-clause-least
unfolding shape-the_row-Typed-0 hidden-the_row-Typed-0 hidden
selected-zero-requires-clause-least t c = first_of (search rules, grind (arith, common_steps))

pub selected-zero-requires-clause-most : goal.selected-zero-requires-clause-most
unfolding shape-the_row-Typed-0 hidden-the_row-Typed-0 hidden
selected-zero-requires-clause-most t c = first_of (search rules, grind (arith, common_steps))

pub computed-value-requires : goal.computed-value-requires
unfolding shape-the_row-Typed-0 hidden-the_row-Typed-0 hidden
computed-value-requires t c = search (rules, the_lemmas)

pub computed-value-low-requires : goal.computed-value-low-requires
unfolding shape-the_row-Typed-0 hidden-the_row-Typed-0 hidden
computed-value-low-requires t c =
    let fits = both-fit c.args.signals.now c.args.e.now.width c.args.e.now.signed c.in-Binary.op c.in-Binary.left c.in-Binary.right (rw c.in-Binary.is at c.requires.fits) in
    (search (rules, the_lemmas), (c.requires.words, rw c.deref-in-Binary.ensures fits.1))

pub computed-value-high-requires : goal.computed-value-high-requires
unfolding shape-the_row-Typed-0 hidden-the_row-Typed-0 hidden
computed-value-high-requires t c =
    let fits = both-fit c.args.signals.now c.args.e.now.width c.args.e.now.signed c.in-Binary.op c.in-Binary.left c.in-Binary.right (rw c.in-Binary.is at c.requires.fits) in
    (search (rules, the_lemmas), (c.requires.words, rw c.deref-in-Binary-2.ensures fits.0))

pub computed-binary-requires : goal.computed-binary-requires
unfolding shape-the_row-Typed-0 hidden-the_row-Typed-0 hidden
computed-binary-requires t c =
    let left : width_of c.value-high.result ≡ c.in-Binary.left.width = search rules in
    let right : width_of c.value-low.result ≡ c.in-Binary.right.width = search rules in
    let fits = binary-fits c.args.signals.now c.args.e.now.width (width_of c.value-high.result) (width_of c.value-low.result) c.args.e.now.signed c.in-Binary.op c.in-Binary.left c.in-Binary.right left right (rw c.in-Binary.is at c.requires.fits) in
    takes-fits c.in-Binary.op c.args.e.now.width (width_of c.value-high.result) (width_of c.value-low.result) fits

pub computed-holds-requires : goal.computed-holds-requires
unfolding shape-the_row-Typed-0 hidden-the_row-Typed-0 hidden
computed-holds-requires t c =
    let fits = choose-test c.args.signals.now c.args.e.now.width c.args.e.now.signed c.in-Choose.cond c.in-Choose.yes c.in-Choose.no (rw c.in-Choose.is at c.requires.fits) in
    (search (rules, the_lemmas), (c.requires.words, rw c.deref-in-Choose.ensures fits))

pub computed-value-requires-then-holds : goal.computed-value-requires-then-holds
unfolding shape-the_row-Typed-0 hidden-the_row-Typed-0 hidden
computed-value-requires-then-holds t c =
    let fits = choose-second c.args.signals.now c.args.e.now.width c.args.e.now.signed c.in-Choose.cond c.in-Choose.yes c.in-Choose.no (rw c.in-Choose.is at c.requires.fits) in
    (search (rules, the_lemmas), (c.requires.words, rw c.deref-then-holds.ensures fits))

pub computed-value-requires-else-holds : goal.computed-value-requires-else-holds
unfolding shape-the_row-Typed-0 hidden-the_row-Typed-0 hidden
computed-value-requires-else-holds t c =
    let fits = choose-last c.args.signals.now c.args.e.now.width c.args.e.now.signed c.in-Choose.cond c.in-Choose.yes c.in-Choose.no (rw c.in-Choose.is at c.requires.fits) in
    (search (rules, the_lemmas), (c.requires.words, rw c.deref-else-holds.ensures fits))

pub computed-value-requires-in-Repeat : goal.computed-value-requires-in-Repeat
unfolding shape-the_row-Typed-0 hidden-the_row-Typed-0 hidden
computed-value-requires-in-Repeat t c = search (rules, the_lemmas)

pub computed-repeated-requires-clause-some : goal.computed-repeated-requires-clause-some
unfolding shape-the_row-Typed-0 hidden-the_row-Typed-0 hidden
computed-repeated-requires-clause-some t c = first_of (search rules, grind (arith, common_steps))

pub computed-repeated-requires-clause-fits : goal.computed-repeated-requires-clause-fits
unfolding shape-the_row-Typed-0 hidden-the_row-Typed-0 hidden
computed-repeated-requires-clause-fits t c =
    let wide : width_of c.value-in-Repeat.result ≡ c.in-Repeat.part.width = search rules in
    let fits = repeat-fits c.args.signals.now c.args.e.now.width c.in-Repeat.times (width_of c.value-in-Repeat.result) c.args.e.now.signed c.in-Repeat.part wide (rw c.in-Repeat.is at c.requires.fits) in omega (arith, fits.0, fits.1)

pub computed-value-requires-in-Resize : goal.computed-value-requires-in-Resize
unfolding shape-the_row-Typed-0 hidden-the_row-Typed-0 hidden
computed-value-requires-in-Resize t c = search (rules, the_lemmas)

pub computed-resized-requires-clause-least : goal.computed-resized-requires-clause-least
unfolding shape-the_row-Typed-0 hidden-the_row-Typed-0 hidden
computed-resized-requires-clause-least t c = first_of (search rules, grind (arith, common_steps))

pub computed-resized-requires-clause-most : goal.computed-resized-requires-clause-most
unfolding shape-the_row-Typed-0 hidden-the_row-Typed-0 hidden
computed-resized-requires-clause-most t c = first_of (search rules, grind (arith, common_steps))

pub selected-returns-in-Pick-clause-width : goal.selected-returns-in-Pick-clause-width
unfolding shape-the_row-Typed-0 hidden-the_row-Typed-0 hidden
selected-returns-in-Pick-clause-width t c = first_of (search rules, grind (arith, common_steps))

pub selected-returns-in-Pick-clause-value : goal.selected-returns-in-Pick-clause-value
unfolding shape-the_row-Typed-0 hidden-the_row-Typed-0 hidden
selected-returns-in-Pick-clause-value t c =
    let S : List Signal = c.args.signals.now in
    let V : Valuation = valuation_of c.args.words.now in
    let index : Typed = c.in-Pick.index in
    let signal : ℕ = c.in-Pick.signal in
    let wide = pick-width S c.args.e.now.width signal c.args.e.now.signed index c.in-Pick.offsets (rw c.in-Pick.is at c.requires.fits) in
    let is = c.deref.ensures in
    let at : ℤ = integer_of c.deref-in-Pick.result.now.signed (width_of c.value-at.result) (value_of c.value-at.result) in
    let same : at ≡ index_value S V index =
    ap (λ e. integer_of e.signed (width_of c.value-at.result) (value_of c.value-at.result)) c.deref-in-Pick.ensures
    ∙ ap (λ w. integer_of index.signed w (value_of c.value-at.result)) (c.value-at.ensures.width ∙ ap (λ e. e.width) is)
    ∙ ap (λ n. integer_of index.signed index.width n) (c.value-at.ensures.value ∙ ap (value S V) is) in
    rw c.in-Pick.is
    (c.picked.ensures.value
    ∙ ap (λ os. number (length os) (picked S V signal at os)) c.deref-in-Pick-2.ensures
    ∙ ap (λ k. number (length c.in-Pick.offsets) (picked S V signal k c.in-Pick.offsets)) same
    ∙ ap (λ w. number w (picked S V signal (index_value S V index) c.in-Pick.offsets)) wide)

pub selected-returns-in-Some-clause-width : goal.selected-returns-in-Some-clause-width
unfolding shape-the_row-Typed-0 hidden-the_row-Typed-0 hidden
selected-returns-in-Some-clause-width t c = first_of (search rules, grind (arith, common_steps))

pub selected-returns-in-None-clause-width : goal.selected-returns-in-None-clause-width
unfolding shape-the_row-Typed-0 hidden-the_row-Typed-0 hidden
selected-returns-in-None-clause-width t c = first_of (search rules, grind (arith, common_steps))

pub selected-returns-in-None-clause-value : goal.selected-returns-in-None-clause-value
unfolding shape-the_row-Typed-0 hidden-the_row-Typed-0 hidden
selected-returns-in-None-clause-value t c =
    let V : Valuation = valuation_of c.args.words.now in
    let low : SFits w32 c.in-Word.low = search rules in
    let address : ℤ = integer_of c.deref-in-Word-2.result.now.signed (width_of c.value-at-in-Word.result) (value_of c.value-at-in-Word.result) in
    let found : None ≡ word_at c.in-Word.first c.in-Word.count c.in-Word.low address = simp to_z-of_z at c.in-None.ensures in
    let width : width_of c.value-at-in-Word.result ≡ c.in-Word.index.width = c.value-at-in-Word.ensures.width ∙ ap (λ e. e.width) c.deref-in-Word.ensures in
    let number : value_of c.value-at-in-Word.result ≡ value c.args.signals.now V c.in-Word.index =
    c.value-at-in-Word.ensures.value ∙ ap (value c.args.signals.now V) c.deref-in-Word.ensures in
    let same : address ≡ index_value c.args.signals.now V c.in-Word.index =
    ap (λ e. integer_of e.signed (width_of c.value-at-in-Word.result) (value_of c.value-at-in-Word.result)) c.deref-in-Word-2.ensures
    ∙ ap (λ w. integer_of c.in-Word.index.signed w (value_of c.value-at-in-Word.result)) width
    ∙ ap (λ n. integer_of c.in-Word.index.signed c.in-Word.index.width n) number in
    rw c.in-Word.is
    (c.zero.ensures.value ∙ ap (word_value V c.in-Word.from c.in-Word.width) (found ∙ ap (word_at c.in-Word.first c.in-Word.count c.in-Word.low) same))

pub computed-returns-in-Unary-clause-width : goal.computed-returns-in-Unary-clause-width
unfolding shape-the_row-Typed-0 hidden-the_row-Typed-0 hidden
computed-returns-in-Unary-clause-width t c =
    let wide : width_of c.value.result ≡ c.in-Unary.arg.width = search rules in
    c.unary.ensures.width c.args.e.now.width
    (unary-fits c.args.signals.now c.args.e.now.width (width_of c.value.result) c.args.e.now.signed c.in-Unary.op c.in-Unary.arg wide (rw c.in-Unary.is at c.requires.fits))

pub computed-returns-in-Unary-clause-value : goal.computed-returns-in-Unary-clause-value
unfolding shape-the_row-Typed-0 hidden-the_row-Typed-0 hidden
computed-returns-in-Unary-clause-value t c =
    let S : List Signal = c.args.signals.now in
    let V : Valuation = valuation_of c.args.words.now in
    let arg : Typed = c.in-Unary.arg in
    let is = c.deref.ensures in
    rw c.in-Unary.is
    (c.unary.ensures.value
    ∙ ap (λ w. unary c.in-Unary.op w (value_of c.value.result)) (c.value.ensures.width ∙ ap (λ e. e.width) is)
    ∙ ap (unary c.in-Unary.op arg.width) (c.value.ensures.value ∙ ap (value S V) is))

pub computed-returns-in-Binary-clause-width : goal.computed-returns-in-Binary-clause-width
unfolding shape-the_row-Typed-0 hidden-the_row-Typed-0 hidden
computed-returns-in-Binary-clause-width t c =
    let left : width_of c.value-high.result ≡ c.in-Binary.left.width = search rules in
    let right : width_of c.value-low.result ≡ c.in-Binary.right.width = search rules in
    let fits = binary-fits c.args.signals.now c.args.e.now.width (width_of c.value-high.result) (width_of c.value-low.result) c.args.e.now.signed c.in-Binary.op c.in-Binary.left c.in-Binary.right left right (rw c.in-Binary.is at c.requires.fits) in
    c.binary.ensures.width c.args.e.now.width fits

pub computed-returns-in-Binary-clause-value : goal.computed-returns-in-Binary-clause-value
unfolding shape-the_row-Typed-0 hidden-the_row-Typed-0 hidden
computed-returns-in-Binary-clause-value t c =
    let S : List Signal = c.args.signals.now in
    let V : Valuation = valuation_of c.args.words.now in
    let left : Typed = c.in-Binary.left in
    let right : Typed = c.in-Binary.right in
    let one = c.deref-in-Binary-2.ensures in
    let other = c.deref-in-Binary.ensures in
    let a = value_of c.value-high.result in
    let b = value_of c.value-low.result in
    rw c.in-Binary.is
    (c.binary.ensures.value
    ∙ ap (λ w. binary c.in-Binary.op w c.deref-in-Binary-3.result.now.signed c.deref-in-Binary-4.result.now.signed a b)
    (c.value-high.ensures.width ∙ ap (λ e. e.width) one)
    ∙ ap (λ e. binary c.in-Binary.op left.width e.signed c.deref-in-Binary-4.result.now.signed a b) c.deref-in-Binary-3.ensures
    ∙ ap (λ e. binary c.in-Binary.op left.width left.signed e.signed a b) c.deref-in-Binary-4.ensures
    ∙ ap (λ n. binary c.in-Binary.op left.width left.signed right.signed n b) (c.value-high.ensures.value ∙ ap (value S V) one)
    ∙ ap (binary c.in-Binary.op left.width left.signed right.signed (value S V left)) (c.value-low.ensures.value ∙ ap (value S V) other))

pub computed-returns-then-holds-clause-width : goal.computed-returns-then-holds-clause-width
unfolding shape-the_row-Typed-0 hidden-the_row-Typed-0 hidden
computed-returns-then-holds-clause-width t c =
    let fits = choose-widths c.args.signals.now c.args.e.now.width c.args.e.now.signed c.in-Choose.cond c.in-Choose.yes c.in-Choose.no (rw c.in-Choose.is at c.requires.fits) in
    let wide : width_of c.value-then-holds.result ≡ c.in-Choose.yes.width = search rules in wide ∙ fits.0

pub computed-returns-then-holds-clause-value : goal.computed-returns-then-holds-clause-value
unfolding shape-the_row-Typed-0 hidden-the_row-Typed-0 hidden
computed-returns-then-holds-clause-value t c =
    let S : List Signal = c.args.signals.now in
    let V : Valuation = valuation_of c.args.words.now in
    let test = c.if-holds.ensures ∙ ap (λ e. is_true (value S V e)) c.deref-in-Choose.ensures in
    rw c.in-Choose.is
    (c.value-then-holds.ensures.value
    ∙ ap (value S V) c.deref-then-holds.ensures
    ∙ ap (λ b. if b then value S V c.in-Choose.yes else value S V c.in-Choose.no) test)

pub computed-returns-else-holds-clause-width : goal.computed-returns-else-holds-clause-width
unfolding shape-the_row-Typed-0 hidden-the_row-Typed-0 hidden
computed-returns-else-holds-clause-width t c =
    let fits = choose-widths c.args.signals.now c.args.e.now.width c.args.e.now.signed c.in-Choose.cond c.in-Choose.yes c.in-Choose.no (rw c.in-Choose.is at c.requires.fits) in
    let wide : width_of c.value-else-holds.result ≡ c.in-Choose.no.width = search rules in wide ∙ fits.1

pub computed-returns-else-holds-clause-value : goal.computed-returns-else-holds-clause-value
unfolding shape-the_row-Typed-0 hidden-the_row-Typed-0 hidden
computed-returns-else-holds-clause-value t c =
    let S : List Signal = c.args.signals.now in
    let V : Valuation = valuation_of c.args.words.now in
    let test = c.if-holds.ensures ∙ ap (λ e. is_true (value S V e)) c.deref-in-Choose.ensures in
    rw c.in-Choose.is
    (c.value-else-holds.ensures.value
    ∙ ap (value S V) c.deref-else-holds.ensures
    ∙ ap (λ b. if b then value S V c.in-Choose.yes else value S V c.in-Choose.no) test)

pub computed-returns-in-Repeat-clause-width : goal.computed-returns-in-Repeat-clause-width
unfolding shape-the_row-Typed-0 hidden-the_row-Typed-0 hidden
computed-returns-in-Repeat-clause-width t c =
    let wide : width_of c.value-in-Repeat.result ≡ c.in-Repeat.part.width = search rules in
    let fits = repeat-fits c.args.signals.now c.args.e.now.width c.in-Repeat.times (width_of c.value-in-Repeat.result) c.args.e.now.signed c.in-Repeat.part wide (rw c.in-Repeat.is at c.requires.fits) in c.repeated.ensures.width ∙ fits.0

pub computed-returns-in-Repeat-clause-value : goal.computed-returns-in-Repeat-clause-value
unfolding shape-the_row-Typed-0 hidden-the_row-Typed-0 hidden
computed-returns-in-Repeat-clause-value t c =
    let S : List Signal = c.args.signals.now in
    let V : Valuation = valuation_of c.args.words.now in
    let part : Typed = c.in-Repeat.part in
    let is = c.deref-in-Repeat.ensures in
    rw c.in-Repeat.is
    (c.repeated.ensures.value
    ∙ ap (λ w. repeated c.in-Repeat.times w (value_of c.value-in-Repeat.result)) (c.value-in-Repeat.ensures.width ∙ ap (λ e. e.width) is)
    ∙ ap (repeated c.in-Repeat.times part.width) (c.value-in-Repeat.ensures.value ∙ ap (value S V) is))

pub computed-returns-in-Resize-clause-value : goal.computed-returns-in-Resize-clause-value
unfolding shape-the_row-Typed-0 hidden-the_row-Typed-0 hidden
computed-returns-in-Resize-clause-value t c = first_of (search rules, grind (arith, common_steps))

pub holds-holds-requires : goal.holds-holds-requires
unfolding shape-the_row-Typed-0 hidden-the_row-Typed-0 hidden
holds-holds-requires t c =
    let fits = unary-arg c.args.signals.now c.args.e.now.width c.args.e.now.signed c.in-Unary.op c.in-Unary.arg (rw c.in-Unary.is at c.requires.fits) in
    (search (rules, the_lemmas), (c.requires.words, rw c.deref.ensures fits))

pub holds-value-requires-in-NotEqual : goal.holds-value-requires-in-NotEqual
unfolding shape-the_row-Typed-0 hidden-the_row-Typed-0 hidden
holds-value-requires-in-NotEqual t c =
    let fits = both-fit c.args.signals.now c.args.e.now.width c.args.e.now.signed c.in-Binary.op c.in-Binary.left c.in-Binary.right (rw c.in-Binary.is at c.requires.fits) in
    (search (rules, the_lemmas), (c.requires.words, rw c.deref-in-NotEqual.ensures fits.0))

pub holds-value-requires-in-NotEqual-3 : goal.holds-value-requires-in-NotEqual-3
unfolding shape-the_row-Typed-0 hidden-the_row-Typed-0 hidden
holds-value-requires-in-NotEqual-3 t c =
    let fits = both-fit c.args.signals.now c.args.e.now.width c.args.e.now.signed c.in-Binary.op c.in-Binary.left c.in-Binary.right (rw c.in-Binary.is at c.requires.fits) in
    (search (rules, the_lemmas), (c.requires.words, rw c.deref-in-NotEqual-2.ensures fits.1))

pub holds-holds-requires-in-LogicalAnd : goal.holds-holds-requires-in-LogicalAnd
unfolding shape-the_row-Typed-0 hidden-the_row-Typed-0 hidden
holds-holds-requires-in-LogicalAnd t c =
    let fits = both-fit c.args.signals.now c.args.e.now.width c.args.e.now.signed c.in-Binary.op c.in-Binary.left c.in-Binary.right (rw c.in-Binary.is at c.requires.fits) in
    (search (rules, the_lemmas), (c.requires.words, rw c.deref-in-LogicalAnd.ensures fits.0))

pub holds-holds-requires-then-holds : goal.holds-holds-requires-then-holds
unfolding shape-the_row-Typed-0 hidden-the_row-Typed-0 hidden
holds-holds-requires-then-holds t c =
    let fits = both-fit c.args.signals.now c.args.e.now.width c.args.e.now.signed c.in-Binary.op c.in-Binary.left c.in-Binary.right (rw c.in-Binary.is at c.requires.fits) in
    (search (rules, the_lemmas), (c.requires.words, rw c.deref-then-holds.ensures fits.1))

pub holds-holds-requires-in-LogicalOr : goal.holds-holds-requires-in-LogicalOr
unfolding shape-the_row-Typed-0 hidden-the_row-Typed-0 hidden
holds-holds-requires-in-LogicalOr t c =
    let fits = both-fit c.args.signals.now c.args.e.now.width c.args.e.now.signed c.in-Binary.op c.in-Binary.left c.in-Binary.right (rw c.in-Binary.is at c.requires.fits) in
    (search (rules, the_lemmas), (c.requires.words, rw c.deref-in-LogicalOr.ensures fits.0))

pub holds-holds-requires-else-holds-2 : goal.holds-holds-requires-else-holds-2
unfolding shape-the_row-Typed-0 hidden-the_row-Typed-0 hidden
holds-holds-requires-else-holds-2 t c =
    let fits = both-fit c.args.signals.now c.args.e.now.width c.args.e.now.signed c.in-Binary.op c.in-Binary.left c.in-Binary.right (rw c.in-Binary.is at c.requires.fits) in
    (search (rules, the_lemmas), (c.requires.words, rw c.deref-else-holds-2.ensures fits.1))

pub holds-value-requires-in-Equal : goal.holds-value-requires-in-Equal
unfolding shape-the_row-Typed-0 hidden-the_row-Typed-0 hidden
holds-value-requires-in-Equal t c =
    let fits = both-fit c.args.signals.now c.args.e.now.width c.args.e.now.signed c.in-Binary.op c.in-Binary.left c.in-Binary.right (rw c.in-Binary.is at c.requires.fits) in
    (search (rules, the_lemmas), (c.requires.words, rw c.deref-in-Equal.ensures fits.0))

pub holds-value-requires-in-Equal-3 : goal.holds-value-requires-in-Equal-3
unfolding shape-the_row-Typed-0 hidden-the_row-Typed-0 hidden
holds-value-requires-in-Equal-3 t c =
    let fits = both-fit c.args.signals.now c.args.e.now.width c.args.e.now.signed c.in-Binary.op c.in-Binary.left c.in-Binary.right (rw c.in-Binary.is at c.requires.fits) in
    (search (rules, the_lemmas), (c.requires.words, rw c.deref-in-Equal-2.ensures fits.1))

pub holds-returns-in-LogicalNot : goal.holds-returns-in-LogicalNot
unfolding shape-the_row-Typed-0 hidden-the_row-Typed-0 hidden
holds-returns-in-LogicalNot t c =
    let S : List Signal = c.args.signals.now in
    let V : Valuation = valuation_of c.args.words.now in
    let arg : Typed = c.in-Unary.arg in
    rw c.in-Unary.is
    (ap not (c.holds.ensures ∙ ap (λ e. is_true (value S V e)) c.deref.ensures)
    ∙ not-holds c.in-Unary.op arg.width (value S V arg) c.in-LogicalNot.is)

pub holds-returns-in-Equal : goal.holds-returns-in-Equal
unfolding shape-the_row-Typed-0 hidden-the_row-Typed-0 hidden
holds-returns-in-Equal t c =
    let S : List Signal = c.args.signals.now in
    let V : Valuation = valuation_of c.args.words.now in
    let left : Typed = c.in-Binary.left in
    let right : Typed = c.in-Binary.right in
    let a = c.value-in-Equal-2.ensures ∙ c.value-in-Equal.ensures.value ∙ ap (value S V) c.deref-in-Equal.ensures in
    let b = c.value-in-Equal-4.ensures ∙ c.value-in-Equal-3.ensures.value ∙ ap (value S V) c.deref-in-Equal-2.ensures in
    rw c.in-Binary.is
    (ap (λ n. (n == c.value-in-Equal-4.result)) a
    ∙ ap (λ n. (value S V left == n)) b
    ∙ equal-holds c.in-Binary.op left.width (value S V left) (value S V right) left.signed right.signed c.in-Equal.is)

pub holds-returns-in-NotEqual : goal.holds-returns-in-NotEqual
unfolding shape-the_row-Typed-0 hidden-the_row-Typed-0 hidden
holds-returns-in-NotEqual t c =
    let S : List Signal = c.args.signals.now in
    let V : Valuation = valuation_of c.args.words.now in
    let left : Typed = c.in-Binary.left in
    let right : Typed = c.in-Binary.right in
    let a = c.value-in-NotEqual-2.ensures ∙ c.value-in-NotEqual.ensures.value ∙ ap (value S V) c.deref-in-NotEqual.ensures in
    let b = c.value-in-NotEqual-4.ensures ∙ c.value-in-NotEqual-3.ensures.value ∙ ap (value S V) c.deref-in-NotEqual-2.ensures in
    rw c.in-Binary.is
    (ap (λ n. not (n == c.value-in-NotEqual-4.result)) a
    ∙ ap (λ n. not (value S V left == n)) b
    ∙ not_equal-holds c.in-Binary.op left.width (value S V left) (value S V right) left.signed right.signed c.in-NotEqual.is)

pub holds-returns-then-holds : goal.holds-returns-then-holds
unfolding shape-the_row-Typed-0 hidden-the_row-Typed-0 hidden
holds-returns-then-holds t c =
    let S : List Signal = c.args.signals.now in
    let V : Valuation = valuation_of c.args.words.now in
    let left : Typed = c.in-Binary.left in
    let right : Typed = c.in-Binary.right in
    let known = sym (c.holds-in-LogicalAnd.ensures ∙ ap (λ e. is_true (value S V e)) c.deref-in-LogicalAnd.ensures) ∙ c.if-holds.true in
    rw c.in-Binary.is
    (c.holds-then-holds.ensures
    ∙ ap (λ e. is_true (value S V e)) c.deref-then-holds.ensures
    ∙ and-holds c.in-Binary.op left.width (value S V left) (value S V right) left.signed right.signed true c.in-LogicalAnd.is known)

pub holds-returns-else-holds : goal.holds-returns-else-holds
unfolding shape-the_row-Typed-0 hidden-the_row-Typed-0 hidden
holds-returns-else-holds t c =
    let S : List Signal = c.args.signals.now in
    let V : Valuation = valuation_of c.args.words.now in
    let left : Typed = c.in-Binary.left in
    let right : Typed = c.in-Binary.right in
    let known = sym (c.holds-in-LogicalAnd.ensures ∙ ap (λ e. is_true (value S V e)) c.deref-in-LogicalAnd.ensures) ∙ c.if-holds.false in
    rw c.in-Binary.is
    (c.if-holds.false ∙ and-holds c.in-Binary.op left.width (value S V left) (value S V right) left.signed right.signed false c.in-LogicalAnd.is known)

pub holds-returns-else-holds-2 : goal.holds-returns-else-holds-2
unfolding shape-the_row-Typed-0 hidden-the_row-Typed-0 hidden
holds-returns-else-holds-2 t c =
    let S : List Signal = c.args.signals.now in
    let V : Valuation = valuation_of c.args.words.now in
    let left : Typed = c.in-Binary.left in
    let right : Typed = c.in-Binary.right in
    let known = sym (c.holds-in-LogicalOr.ensures ∙ ap (λ e. is_true (value S V e)) c.deref-in-LogicalOr.ensures) ∙ c.if-holds-2.false in
    rw c.in-Binary.is
    (c.holds-else-holds-2.ensures
    ∙ ap (λ e. is_true (value S V e)) c.deref-else-holds-2.ensures
    ∙ or-holds c.in-Binary.op left.width (value S V left) (value S V right) left.signed right.signed false c.in-LogicalOr.is known)

pub holds-returns-then-holds-2 : goal.holds-returns-then-holds-2
unfolding shape-the_row-Typed-0 hidden-the_row-Typed-0 hidden
holds-returns-then-holds-2 t c =
    let S : List Signal = c.args.signals.now in
    let V : Valuation = valuation_of c.args.words.now in
    let left : Typed = c.in-Binary.left in
    let right : Typed = c.in-Binary.right in
    let known = sym (c.holds-in-LogicalOr.ensures ∙ ap (λ e. is_true (value S V e)) c.deref-in-LogicalOr.ensures) ∙ c.if-holds-2.true in
    rw c.in-Binary.is
    (c.if-holds-2.true ∙ or-holds c.in-Binary.op left.width (value S V left) (value S V right) left.signed right.signed true c.in-LogicalOr.is known)
