use Rattle.std.proofs.Common.{◌+◌, ◌*◌, ◌/◌, ◌%◌, ◌^◌, ◌<◌, map, ap, ap₂, subst, sym, ◌∙◌, arith, rules, w64}
use Rattle.std.specs.Prelude.{IsTrue}
use Rattle.std.proofs.lemmas.Int.{to_z-of_z}
use mir.Val.{SFits}
use Rattle.loc_base.specs.Bits.{width_of, value_of}
use Rattle.design_core.specs.After.{assigned}
use Rattle.design_core.specs.Operator.{repeated, resized}
use Rattle.design_core.specs.Valuation.{bit, number}
use Rattle.design_core.specs.WellFormed.{is_width}
use Rattle.design_core.specs.Words.{choice_of}
use Rattle.design_core.proofs.NumberLaws.{number-part}
use Rattle.word_net.specs.Values.{read}
use Rattle.plain_values.proofs.EvaluateNodes.{takes-fits}
use Rattle.net_values.proofs.Nodes.{wide}
use Rattle.net_values.proofs.Replaced.{as_wide, join-value, times-some}
use Rattle.net_values.proofs.node.value.Goals as goal

pub unwrap-requires : goal.unwrap-requires
unwrap-requires c = c.new.ensures.some.1 ((wide c.args.node.now.width c.requires.fits.width).0, (wide c.args.node.now.width c.requires.fits.width).1, (rw c.in-Const.is at c.requires.fits.operation))

pub nth-requires : goal.nth-requires
nth-requires c = (rw c.in-Input.is at c.requires.given)

pub nth-requires-in-State : goal.nth-requires-in-State
nth-requires-in-State c = (rw c.in-State.is at c.requires.given)

pub read-requires : goal.read-requires
read-requires c = (rw c.in-Free.is at c.requires.fits.operation).0

pub assigned-requires-clause-least : goal.assigned-requires-clause-least
assigned-requires-clause-least c = (wide c.args.node.now.width c.requires.fits.width).0

pub assigned-requires-clause-narrower : goal.assigned-requires-clause-narrower
assigned-requires-clause-narrower c = let narrower = (rw c.in-Free.is at c.requires.fits.operation).1 in omega (arith, narrower, c.read.ensures.width)

pub assigned-requires-clause-freed : goal.assigned-requires-clause-freed
assigned-requires-clause-freed c = (rw c.in-Free.is at c.requires.given).0

pub assigned-requires-clause-chosen : goal.assigned-requires-clause-chosen
assigned-requires-clause-chosen c = (rw c.in-Free.is at c.requires.given).1

pub of_unary-requires : goal.of_unary-requires
of_unary-requires c = (rw c.in-Unary.is at c.requires.fits.operation).0

pub of_binary-requires-clause-left : goal.of_binary-requires-clause-left
of_binary-requires-clause-left c = (rw c.in-Binary.is at c.requires.fits.operation).0

pub of_binary-requires-clause-right : goal.of_binary-requires-clause-right
of_binary-requires-clause-right c = (rw c.in-Binary.is at c.requires.fits.operation).1

pub of_binary-requires-clause-takes : goal.of_binary-requires-clause-takes
of_binary-requires-clause-takes c = takes-fits c.in-Binary.op c.args.node.now.width c.in-Binary.left.width c.in-Binary.right.width (rw c.in-Binary.is at c.requires.fits.operation).2

pub of_choice-requires-clause-cond : goal.of_choice-requires-clause-cond
of_choice-requires-clause-cond c = (rw c.in-Choose.is at c.requires.fits.operation).0.there

pub of_choice-requires-clause-on_true : goal.of_choice-requires-clause-on_true
of_choice-requires-clause-on_true c = (rw c.in-Choose.is at c.requires.fits.operation).1.there

pub of_choice-requires-clause-on_false : goal.of_choice-requires-clause-on_false
of_choice-requires-clause-on_false c = (rw c.in-Choose.is at c.requires.fits.operation).2.there

pub of_choice-requires-clause-alike : goal.of_choice-requires-clause-alike
of_choice-requires-clause-alike c = (rw c.in-Choose.is at c.requires.fits.operation).1.wide ∙ sym (rw c.in-Choose.is at c.requires.fits.operation).2.wide

pub read-requires-in-Join : goal.read-requires-in-Join
read-requires-in-Join c = (rw c.in-Join.is at c.requires.fits.operation).0

pub read-requires-in-Join-2 : goal.read-requires-in-Join-2
read-requires-in-Join-2 c = (rw c.in-Join.is at c.requires.fits.operation).1

pub join-requires : goal.join-requires
join-requires c = let sum = (rw c.in-Join.is at c.requires.fits.operation).2 in omega (arith, sum, (wide c.args.node.now.width c.requires.fits.width), c.read-in-Join.ensures.width, c.read-in-Join-2.ensures.width)

pub read-requires-in-Repeat : goal.read-requires-in-Repeat
read-requires-in-Repeat c = (rw c.in-Repeat.is at c.requires.fits.operation).0

pub repeated-requires-clause-some : goal.repeated-requires-clause-some
repeated-requires-clause-some c = times-some c.in-Repeat.times c.in-Repeat.part.width c.args.node.now.width (rw c.in-Repeat.is at c.requires.fits.operation).1 (wide c.args.node.now.width c.requires.fits.width).0

pub repeated-requires-clause-fits : goal.repeated-requires-clause-fits
repeated-requires-clause-fits c = let sum = (rw c.in-Repeat.is at c.requires.fits.operation).1 in let same = ap (λ k. c.in-Repeat.times * k) c.read-in-Repeat.ensures.width in omega (arith, sum, same, (wide c.args.node.now.width c.requires.fits.width))

pub read-requires-in-Resize : goal.read-requires-in-Resize
read-requires-in-Resize c = (rw c.in-Resize.is at c.requires.fits.operation)

pub resized-requires-clause-least : goal.resized-requires-clause-least
resized-requires-clause-least c = (wide c.args.node.now.width c.requires.fits.width).0

pub resized-requires-clause-most : goal.resized-requires-clause-most
resized-requires-clause-most c = (wide c.args.node.now.width c.requires.fits.width).1

pub read-requires-in-Slice : goal.read-requires-in-Slice
read-requires-in-Slice c = (rw c.in-Slice.is at c.requires.fits.operation).0

pub part-requires-clause-least : goal.part-requires-clause-least
part-requires-clause-least c = (wide c.args.node.now.width c.requires.fits.width).0

pub part-requires-clause-within : goal.part-requires-clause-within
part-requires-clause-within c = let within = (rw c.in-Slice.is at c.requires.fits.operation).1 in omega (arith, within, c.read-in-Slice.ensures.width)

pub of_pick-requires-clause-word : goal.of_pick-requires-clause-word
of_pick-requires-clause-word c = (rw c.in-Pick.is at c.requires.fits.operation).0

pub of_pick-requires-clause-index : goal.of_pick-requires-clause-index
of_pick-requires-clause-index c = (rw c.in-Pick.is at c.requires.fits.operation).1.index

pub of_pick-requires-clause-offsets : goal.of_pick-requires-clause-offsets
of_pick-requires-clause-offsets c = subst (λ n. IsTrue (is_width n)) (sym (rw c.in-Pick.is at c.requires.fits.operation).2) c.requires.fits.width

pub of_is-requires : goal.of_is-requires
of_is-requires c = (rw c.in-Is.is at c.requires.fits.operation).0

pub of_put-requires-clause-old : goal.of_put-requires-clause-old
of_put-requires-clause-old c = (rw c.in-Put.is at c.requires.fits.operation).0.there

pub of_put-requires-clause-word : goal.of_put-requires-clause-word
of_put-requires-clause-word c = (rw c.in-Put.is at c.requires.fits.operation).1

pub of_put-requires-clause-within : goal.of_put-requires-clause-within
of_put-requires-clause-within c = let within = (rw c.in-Put.is at c.requires.fits.operation).2 in let same = (rw c.in-Put.is at c.requires.fits.operation).0.wide in omega (arith, within, same)

pub of_put_pick-requires-clause-old : goal.of_put_pick-requires-clause-old
of_put_pick-requires-clause-old c = (rw c.in-PutPick.is at c.requires.fits.operation).0.there

pub of_put_pick-requires-clause-index : goal.of_put_pick-requires-clause-index
of_put_pick-requires-clause-index c = (rw c.in-PutPick.is at c.requires.fits.operation).2.index

pub of_put_pick-requires-clause-word : goal.of_put_pick-requires-clause-word
of_put_pick-requires-clause-word c = (rw c.in-PutPick.is at c.requires.fits.operation).1

pub of_blend-requires-clause-one : goal.of_blend-requires-clause-one
of_blend-requires-clause-one c = (rw c.in-Blend.is at c.requires.fits.operation).0.there

pub of_blend-requires-clause-other : goal.of_blend-requires-clause-other
of_blend-requires-clause-other c = (rw c.in-Blend.is at c.requires.fits.operation).1.there

pub of_blend-requires-clause-alike : goal.of_blend-requires-clause-alike
of_blend-requires-clause-alike c = (rw c.in-Blend.is at c.requires.fits.operation).0.wide ∙ sym (rw c.in-Blend.is at c.requires.fits.operation).1.wide

pub of_blend-requires-clause-mask : goal.of_blend-requires-clause-mask
of_blend-requires-clause-mask c = subst (λ n. c.in-Blend.mask < 2 ^ n) (sym (rw c.in-Blend.is at c.requires.fits.operation).1.wide) (rw c.in-Blend.is at c.requires.fits.operation).2

pub returns-in-Input-clause-value : goal.returns-in-Input-clause-value
returns-in-Input-clause-value c = rw c.in-Input.is c.nth.ensures.value

pub returns-in-State-clause-value : goal.returns-in-State-clause-value
returns-in-State-clause-value c = rw c.in-State.is c.nth-in-State.ensures.value

pub returns-in-Free-clause-value : goal.returns-in-Free-clause-value
returns-in-Free-clause-value c = rw c.in-Free.is (c.assigned.ensures.value ∙ ap (λ v. number c.args.node.now.width (bit (assigned (choice_of c.args.cycle.now.freed.now c.args.cycle.now.chosen.now) c.in-Free.place v))) c.read.ensures.value)

pub returns-in-Unary-clause-width : goal.returns-in-Unary-clause-width
returns-in-Unary-clause-width c = c.of_unary.ensures.width c.args.node.now.width (rw c.in-Unary.is at c.requires.fits.operation).1

pub returns-in-Unary-clause-value : goal.returns-in-Unary-clause-value
returns-in-Unary-clause-value c = rw c.in-Unary.is c.of_unary.ensures.value

pub returns-in-Binary-clause-width : goal.returns-in-Binary-clause-width
returns-in-Binary-clause-width c = c.of_binary.ensures.width c.args.node.now.width (rw c.in-Binary.is at c.requires.fits.operation).2

pub returns-in-Binary-clause-value : goal.returns-in-Binary-clause-value
returns-in-Binary-clause-value c = rw c.in-Binary.is c.of_binary.ensures.value

pub returns-in-Choose-clause-width : goal.returns-in-Choose-clause-width
returns-in-Choose-clause-width c = c.of_choice.ensures.width ∙ (rw c.in-Choose.is at c.requires.fits.operation).2.wide

pub returns-in-Choose-clause-value : goal.returns-in-Choose-clause-value
returns-in-Choose-clause-value c = rw c.in-Choose.is c.of_choice.ensures.value

pub returns-in-Join-clause-width : goal.returns-in-Join-clause-width
returns-in-Join-clause-width c = c.join.ensures.width ∙ ap₂ (λ a b. a + b) c.read-in-Join.ensures.width c.read-in-Join-2.ensures.width ∙ (rw c.in-Join.is at c.requires.fits.operation).2

pub returns-in-Join-clause-value : goal.returns-in-Join-clause-value
returns-in-Join-clause-value c = rw c.in-Join.is (c.join.ensures.value ∙ join-value (value_of c.read-in-Join.result) (value_of c.read-in-Join-2.result) (width_of c.read-in-Join-2.result) (read (map value_of c.args.known.now) c.in-Join.high) (read (map value_of c.args.known.now) c.in-Join.low) c.in-Join.low.width c.read-in-Join.ensures.value c.read-in-Join-2.ensures.value c.read-in-Join-2.ensures.width)

pub returns-in-Repeat-clause-width : goal.returns-in-Repeat-clause-width
returns-in-Repeat-clause-width c = c.repeated.ensures.width ∙ ap (λ k. c.in-Repeat.times * k) c.read-in-Repeat.ensures.width ∙ (rw c.in-Repeat.is at c.requires.fits.operation).1

pub returns-in-Repeat-clause-value : goal.returns-in-Repeat-clause-value
returns-in-Repeat-clause-value c = rw c.in-Repeat.is (c.repeated.ensures.value ∙ ap₂ (repeated c.in-Repeat.times) c.read-in-Repeat.ensures.width c.read-in-Repeat.ensures.value)

pub returns-in-Resize-clause-value : goal.returns-in-Resize-clause-value
returns-in-Resize-clause-value c = rw c.in-Resize.is (c.resized.ensures.value ∙ ap₂ (resized c.args.node.now.width c.in-Resize.arg.signed) c.read-in-Resize.ensures.width c.read-in-Resize.ensures.value)

pub returns-in-Slice-clause-value : goal.returns-in-Slice-clause-value
returns-in-Slice-clause-value c = rw c.in-Slice.is (c.part.ensures.value ∙ ap (λ v. v / 2 ^ c.in-Slice.from % 2 ^ c.args.node.now.width) c.read-in-Slice.ensures.value ∙ sym (number-part c.args.node.now.width c.in-Slice.from (read (map value_of c.args.known.now) c.in-Slice.word)))

pub returns-in-Pick-clause-width : goal.returns-in-Pick-clause-width
returns-in-Pick-clause-width c = c.of_pick.ensures.width ∙ (rw c.in-Pick.is at c.requires.fits.operation).2

pub returns-in-Pick-clause-value : goal.returns-in-Pick-clause-value
returns-in-Pick-clause-value c = rw c.in-Pick.is (as_wide _ c.of_pick.ensures.value (rw c.in-Pick.is at c.requires.fits.operation).2)

pub returns-in-Is-clause-width : goal.returns-in-Is-clause-width
returns-in-Is-clause-width c = c.of_is.ensures.width ∙ sym (rw c.in-Is.is at c.requires.fits.operation).1

pub returns-in-Is-clause-value : goal.returns-in-Is-clause-value
returns-in-Is-clause-value c =
    let fits : SFits w64 c.in-Is.number = search rules in
    rw c.in-Is.is (simp to_z-of_z at c.of_is.ensures.value)

pub returns-in-Put-clause-width : goal.returns-in-Put-clause-width
returns-in-Put-clause-width c = c.of_put.ensures.width ∙ (rw c.in-Put.is at c.requires.fits.operation).0.wide

pub returns-in-Put-clause-value : goal.returns-in-Put-clause-value
returns-in-Put-clause-value c = rw c.in-Put.is (as_wide _ c.of_put.ensures.value (rw c.in-Put.is at c.requires.fits.operation).0.wide)

pub returns-in-PutPick-clause-width : goal.returns-in-PutPick-clause-width
returns-in-PutPick-clause-width c = c.of_put_pick.ensures.width ∙ (rw c.in-PutPick.is at c.requires.fits.operation).0.wide

pub returns-in-PutPick-clause-value : goal.returns-in-PutPick-clause-value
returns-in-PutPick-clause-value c = rw c.in-PutPick.is (as_wide _ c.of_put_pick.ensures.value (rw c.in-PutPick.is at c.requires.fits.operation).0.wide)

pub returns-in-Blend-clause-width : goal.returns-in-Blend-clause-width
returns-in-Blend-clause-width c = c.of_blend.ensures.width ∙ (rw c.in-Blend.is at c.requires.fits.operation).1.wide

pub returns-in-Blend-clause-value : goal.returns-in-Blend-clause-value
returns-in-Blend-clause-value c = rw c.in-Blend.is (as_wide _ c.of_blend.ensures.value (rw c.in-Blend.is at c.requires.fits.operation).1.wide)
