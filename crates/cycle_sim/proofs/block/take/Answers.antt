use Rattle.std.proofs.Common.{arith, ◌∙◌, ap, sym}
use Rattle.design_core.specs.Words.{valuation_of}
use Rattle.plain_sim.specs.EvaluateCycle.{blended}
use Rattle.cycle_code.specs.Program.{program_of}
use Rattle.cycle_sim.specs.Masks.{covers}
use Rattle.cycle_sim.specs.Compiled.{later_in}
use Rattle.cycle_sim.proofs.CellWords.{halves-of, two-replaced}
use Rattle.cycle_sim.proofs.block.take.Goals as goal

pub copy_bits-requires-clause-from : goal.copy_bits-requires-clause-from
copy_bits-requires-clause-from c =
    let halves = halves-of (program_of c.args.code.now) c.args.cells.now c.split_at_mut-values.result.0.now
    c.split_at_mut-values.result.1.now c.split_at_mut-state.result.0.now c.split_at_mut-state.result.1.now
    c.len-count.result c.requires.sound c.requires.cells (omega (arith, c.len-count.ensures, c.args.code.now.design.now.signals.ok.0))
    c.split_at_mut-values.ensures.front c.split_at_mut-values.ensures.back c.split_at_mut-state.ensures.front
    c.split_at_mut-state.ensures.back in
    halves.later_fit.widths ∙ sym halves.now_fit.widths

pub returns : goal.returns
returns c =
    let halves = halves-of (program_of c.args.code.now) c.args.cells.now c.split_at_mut-values.result.0.now
    c.split_at_mut-values.result.1.now c.split_at_mut-state.result.0.now c.split_at_mut-state.result.1.now
    c.len-count.result c.requires.sound c.requires.cells (omega (arith, c.len-count.ensures, c.args.code.now.design.now.signals.ok.0))
    c.split_at_mut-values.ensures.front c.split_at_mut-values.ensures.back c.split_at_mut-state.ensures.front
    c.split_at_mut-state.ensures.back in
    let left = two-replaced (program_of c.args.code.now) c.args.cells.now c.split_at_mut-values.result.0.now
    c.split_at_mut-state.result.0.now c.split_at_mut-state.result.1.now c.copy_bits.new.to
    c.split_at_mut-state.result.0.now c.requires.sound c.requires.cells halves.pieces
    (record { widths = c.copy_bits.ensures.widths ∙ halves.now_fit.widths }) halves.later_fit in
    record {
      cells = left.cells;
      now = left.now ∙ c.copy_bits.ensures.value
          ∙ ap (λ N. blended (covers c.args.masks.now) N (valuation_of c.split_at_mut-values.result.0.now)) halves.later_is
          ∙ ap (blended (covers c.args.masks.now) (later_in (program_of c.args.code.now) (valuation_of c.args.cells.now))) halves.now_is;
      later = left.later ∙ halves.later_is;
    }
