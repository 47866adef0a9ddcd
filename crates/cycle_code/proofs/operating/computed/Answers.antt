use Rattle.std.proofs.Common.{sym, subst, ap, ◌∙◌, length, take}
use Rattle.design_core.specs.Value.{value}
use Rattle.design_core.specs.Words.{valuation_of, AreWordsOf}
use Rattle.cycle_code.specs.Program.{program_of, signals_of, count_of}
use Rattle.cycle_code.proofs.WordCells.{words-now, valuation-take}
use Rattle.cycle_code.proofs.operating.computed.Goals as goal

pub value-requires-clause-words : goal.value-requires-clause-words
value-requires-clause-words c =
    subst (λ signals. AreWordsOf signals (take (length signals) c.args.cells.now)) (sym c.as_slice-signals.ensures.value)
    (words-now (program_of c.args.code.now) c.args.cells.now c.requires.sound c.requires.widths)

pub returns-clause-value : goal.returns-clause-value
returns-clause-value c =
    let p = program_of c.args.code.now in
    c.value.ensures.value
    ∙ ap (λ signals. value signals (valuation_of (take (length signals) c.args.cells.now)) c.args.e.now) c.as_slice-signals.ensures.value
    ∙ ap (λ V. value (signals_of p) V c.args.e.now) (valuation-take (count_of p) c.args.cells.now)
