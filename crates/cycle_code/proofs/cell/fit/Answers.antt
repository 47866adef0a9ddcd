use Rattle.std.proofs.Common.{List, map, ap, ◌∙◌}
use Rattle.std.specs.Prelude.{false}
use Rattle.loc_base.specs.declared.bits.Bits.{Bits}
use Rattle.loc_base.specs.Bits.{width_of, value_of}
use Rattle.design_core.specs.Valuation.{Valuation}
use Rattle.design_core.specs.Words.{valuation_of}
use Rattle.design_core.specs.Operator.{resized}
use Rattle.cycle_code.specs.Cells.{with_held}
use Rattle.cycle_code.proofs.CellLaws.{with_held-resized}
use Rattle.cycle_code.proofs.cell.fit.Goals as goal

pub returns-clause-value : goal.returns-clause-value
returns-clause-value c =
    let cells : List Bits = c.args.cells.now in
    let V : Valuation = valuation_of cells in
    let word : Bits = c.args.word in
    c.write.ensures.value
    ∙ ap (λ n. with_held (map width_of cells) c.args.cell n V)
    (c.resized-fitted.ensures.value ∙ ap (λ n. resized n false (width_of word) (value_of word)) (c.width.ensures ∙ c.read.ensures.width))
    ∙ with_held-resized (map width_of cells) c.args.cell (width_of word) (value_of word) V
