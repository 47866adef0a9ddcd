use Rattle.std.proofs.Common.{◌<◌, length, ap, ◌∙◌}
use Rattle.std.proofs.Math.Seq.{map-set_same}
use Rattle.loc_base.specs.Bits.{width_of}
use Rattle.design_core.specs.Constant.{zeros}
use Rattle.plain_values.proofs.EvaluateWords.{slice_get_at}
use Rattle.cycle_sim.proofs.Blending.{mask-within, replaced-bits}
use Rattle.cycle_sim.proofs.mask.clear_one.Goals as goal

pub returns-clause-widths : goal.returns-clause-widths
returns-clause-widths c =
    map-set_same width_of c.args.words.now c.args.mask.signal c.take.new.self c.index-words-signal.result
    (ap width_of c.take.ensures ∙ c.clear-word.ensures.width ∙ ap width_of c.index-words-signal.is)

pub returns-clause-value : goal.returns-clause-value
returns-clause-value c =
    let within : c.args.mask.signal < length c.args.words.now = mask-within c.args.words.now c.args.mask c.requires in
    replaced-bits c.args.words.now zeros c.args.mask c.index-words-signal.result c.take.new.self within
    (slice_get_at c.args.words.now c.args.mask.signal c.index-words-signal.result within c.index-words-signal.is)
    (rw c.take.ensures c.clear-word.ensures.bits)
