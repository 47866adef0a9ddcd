use Rattle.std.proofs.Common.{◌∙◌, ap}
use Rattle.loc_base.specs.Bits.{width_of, value_of}
use Rattle.std.proofs.Math.Seq.{map-set_same}
use Rattle.loc_base.proofs.ShelfLists.{slice_get-at}
use Rattle.design_core.specs.Valuation.{bit}
use Rattle.plain_values.proofs.EvaluateWrite.{written}
use Rattle.plain_values.proofs.write.write.Goals as goal

pub returns-clause-widths : goal.returns-clause-widths
returns-clause-widths c =
    map-set_same width_of c.args.words.now c.args.signal c.take.new.self c.index-words-signal.result
    (ap width_of c.take.ensures ∙ c.replaced-word.ensures.width ∙ ap width_of c.index-words-signal.is)

pub returns-clause-words : goal.returns-clause-words
returns-clause-words c =
    written c.args.words.now c.args.signal c.index-words-signal.result c.take.new.self c.args.from c.args.width (bit (value_of c.args.value)) c.requires.signal
    (slice_get-at c.args.words.now c.args.signal c.index-words-signal.result c.requires.signal c.index-words-signal.is)
    (rw c.take.ensures c.replaced-word.ensures.bits)
