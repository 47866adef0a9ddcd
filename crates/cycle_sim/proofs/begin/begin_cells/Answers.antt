use Rattle.std.proofs.Common.{arith, ◌∙◌, ap}
use Rattle.std.specs.Prelude.{if◌then◌else◌}
use Rattle.design_core.specs.Valuation.{Valuation}
use Rattle.design_core.specs.Words.{valuation_of}
use Rattle.cycle_code.specs.Program.{program_of}
use Rattle.design_core.specs.Drives.{is_listed}
use Rattle.design_core.specs.Cycle.{sampled}
use Rattle.cycle_sim.specs.Masks.{covers}
use Rattle.cycle_sim.specs.Compiled.{later_in}
use Rattle.cycle_sim.proofs.CellWords.{halves-of, two-replaced}
use Rattle.cycle_sim.proofs.begin.begin_cells.Goals as goal

pub begin-requires-clause-state : goal.begin-requires-clause-state
begin-requires-clause-state c =
    let halves = halves-of (program_of c.args.code.now) c.args.cells.now c.split_at_mut-values.result.0.now
    c.split_at_mut-values.result.1.now c.split_at_mut-state.result.0.now c.split_at_mut-state.result.1.now
    c.len-count.result c.requires.sound c.requires.cells (omega (arith, c.len-count.ensures, c.args.code.now.design.now.signals.ok.0))
    c.split_at_mut-values.ensures.front c.split_at_mut-values.ensures.back c.split_at_mut-state.ensures.front
    c.split_at_mut-state.ensures.back in
    halves.later_fit

pub begin-requires-clause-values : goal.begin-requires-clause-values
begin-requires-clause-values c =
    let halves = halves-of (program_of c.args.code.now) c.args.cells.now c.split_at_mut-values.result.0.now
    c.split_at_mut-values.result.1.now c.split_at_mut-state.result.0.now c.split_at_mut-state.result.1.now
    c.len-count.result c.requires.sound c.requires.cells (omega (arith, c.len-count.ensures, c.args.code.now.design.now.signals.ok.0))
    c.split_at_mut-values.ensures.front c.split_at_mut-values.ensures.back c.split_at_mut-state.ensures.front
    c.split_at_mut-state.ensures.back in
    halves.now_fit

pub returns : goal.returns
returns c =
    let halves = halves-of (program_of c.args.code.now) c.args.cells.now c.split_at_mut-values.result.0.now
    c.split_at_mut-values.result.1.now c.split_at_mut-state.result.0.now c.split_at_mut-state.result.1.now
    c.len-count.result c.requires.sound c.requires.cells (omega (arith, c.len-count.ensures, c.args.code.now.design.now.signals.ok.0))
    c.split_at_mut-values.ensures.front c.split_at_mut-values.ensures.back c.split_at_mut-state.ensures.front
    c.split_at_mut-state.ensures.back in
    let left = two-replaced (program_of c.args.code.now) c.args.cells.now c.split_at_mut-values.result.0.now
    c.split_at_mut-state.result.0.now c.split_at_mut-state.result.1.now c.begin.new.values
    c.split_at_mut-state.result.0.now c.requires.sound c.requires.cells halves.pieces
    c.begin.ensures.words halves.later_fit in
    record {
      cells = left.cells;
      now = λ s b. ap (λ (N : Valuation). N s b) left.now ∙ c.begin.ensures.value s b
          ∙ ap (λ (N : Valuation). if is_listed c.args.code.now.design.now s then sampled
          c.args.code.now.design.now.inputs.items c.args.samples.now s b else if covers c.args.registers.now.masks.items s
          b then N s b else valuation_of c.split_at_mut-values.result.0.now s b) halves.later_is
          ∙ ap (λ (N : Valuation). if is_listed c.args.code.now.design.now s then sampled
          c.args.code.now.design.now.inputs.items c.args.samples.now s b else if covers c.args.registers.now.masks.items s
          b then later_in (program_of c.args.code.now) (valuation_of c.args.cells.now) s b else N s b) halves.now_is;
      later = left.later ∙ halves.later_is;
    }
