use Rattle.std.proofs.Common.{ap, ◌∙◌, map}
use Rattle.loc_base.specs.Bits.{width_of}
use Rattle.design_core.specs.Words.{valuation_of}
use Rattle.cycle_code.specs.Cells.{with_held}
use Rattle.cycle_code.proofs.WordCells.{slice-value}
use Rattle.cycle_code.proofs.operating.slice.Goals as goal

pub returns-clause-value : goal.returns-clause-value
returns-clause-value c =
    let cells = c.args.cells.now in
    c.write.ensures.value
    ∙ ap (λ n. with_held (map width_of cells) c.args.to n (valuation_of cells))
    (c.part-word.ensures.value
    ∙ slice-value cells c.args.arg c.args.from c.args.width c.read.result c.requires.arg c.read.ensures.value)
