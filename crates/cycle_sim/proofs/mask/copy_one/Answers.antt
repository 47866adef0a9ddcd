use Rattle.std.proofs.Common.{◌≡◌, ◌<◌, length, ap, sym, ◌∙◌, arith}
use Rattle.std.specs.Prelude.{slice_get, Some, if◌then◌else◌}
use Rattle.std.proofs.Math.Seq.{map-set_same}
use Rattle.std.proofs.lemmas.List.{length-map}
use Rattle.loc_base.specs.Bits.{width_of, bit_of}
use Rattle.loc_base.specs.declared.bits.Bits.{Bits}
use Rattle.design_core.specs.Words.{valuation_of}
use Rattle.plain_values.proofs.EvaluateWords.{slice_get_at, valuation-bit}
use Rattle.cycle_sim.proofs.Blending.{mask-within, replaced-bits}
use Rattle.cycle_sim.proofs.mask.copy_one.Goals as goal

pub returns-clause-widths : goal.returns-clause-widths
returns-clause-widths c =
    map-set_same width_of c.args.to.now c.args.mask.signal c.take.new.self c.index-to-signal.result
    (ap width_of c.take.ensures ∙ c.blend-word.ensures.width ∙ ap width_of c.index-to-signal.is)

pub returns-clause-value : goal.returns-clause-value
returns-clause-value c =
    let within : c.args.mask.signal < length c.args.to.now = mask-within c.args.to.now c.args.mask c.requires.fits in
    let there : c.args.mask.signal < length c.args.from.now =
    omega (arith, within, length-map c.args.to.now width_of, length-map c.args.from.now width_of, ap length c.requires.from) in
    let at : slice_get c.args.from.now c.args.mask.signal ≡ Some c.index-from-signal.result =
    slice_get_at c.args.from.now c.args.mask.signal c.index-from-signal.result there c.index-from-signal.is in
    replaced-bits c.args.to.now (valuation_of c.args.from.now) c.args.mask c.index-to-signal.result c.take.new.self within
    (slice_get_at c.args.to.now c.args.mask.signal c.index-to-signal.result within c.index-to-signal.is)
    (λ b. ap (λ (word : Bits). bit_of word b) c.take.ensures ∙ c.blend-word.ensures.bits b
    ∙ ap (λ x. if bit_of c.args.mask.bits b then x else bit_of c.index-to-signal.result b)
    (sym (valuation-bit c.args.from.now c.args.mask.signal b c.index-from-signal.result at)))
