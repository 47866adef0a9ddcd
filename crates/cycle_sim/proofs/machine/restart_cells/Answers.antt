use Rattle.std.proofs.Common.{arith, ◌∙◌}
use Rattle.cycle_code.specs.Program.{program_of}
use Rattle.cycle_sim.proofs.CellWords.{halves-of, two-replaced}
use Rattle.cycle_sim.proofs.machine.restart_cells.Goals as goal

pub clear-requires : goal.clear-requires
clear-requires c =
    let halves = halves-of (program_of c.args.code.now) c.args.cells.now c.split_at_mut-values.result.0.now
    c.split_at_mut-values.result.1.now c.split_at_mut-state.result.0.now c.split_at_mut-state.result.1.now
    c.len-count.result c.requires.sound c.requires.cells (omega (arith, c.len-count.ensures, c.args.code.now.design.now.signals.ok.0))
    c.split_at_mut-values.ensures.front c.split_at_mut-values.ensures.back c.split_at_mut-state.ensures.front
    c.split_at_mut-state.ensures.back in
    record { words = rw c.deref.ensures.value halves.now_fit }

pub restart-requires-clause-words : goal.restart-requires-clause-words
restart-requires-clause-words c =
    let halves = halves-of (program_of c.args.code.now) c.args.cells.now c.split_at_mut-values.result.0.now
    c.split_at_mut-values.result.1.now c.split_at_mut-state.result.0.now c.split_at_mut-state.result.1.now
    c.len-count.result c.requires.sound c.requires.cells (omega (arith, c.len-count.ensures, c.args.code.now.design.now.signals.ok.0))
    c.split_at_mut-values.ensures.front c.split_at_mut-values.ensures.back c.split_at_mut-state.ensures.front
    c.split_at_mut-state.ensures.back in
    rw c.deref-2.ensures.value halves.later_fit

pub returns : goal.returns
returns c =
    let halves = halves-of (program_of c.args.code.now) c.args.cells.now c.split_at_mut-values.result.0.now
    c.split_at_mut-values.result.1.now c.split_at_mut-state.result.0.now c.split_at_mut-state.result.1.now
    c.len-count.result c.requires.sound c.requires.cells (omega (arith, c.len-count.ensures, c.args.code.now.design.now.signals.ok.0))
    c.split_at_mut-values.ensures.front c.split_at_mut-values.ensures.back c.split_at_mut-state.ensures.front
    c.split_at_mut-state.ensures.back in
    let left = two-replaced (program_of c.args.code.now) c.args.cells.now c.split_at_mut-values.result.0.now
    c.split_at_mut-state.result.0.now c.split_at_mut-state.result.1.now c.clear.new.words c.restart.new.words
    c.requires.sound c.requires.cells halves.pieces
    (rw c.deref.ensures.value at c.clear.ensures.words) (rw c.deref-2.ensures.value at c.restart.ensures.words) in
    record {
      cells = left.cells;
      now = left.now ∙ c.clear.ensures.value;
      later = left.later ∙ (rw c.deref-2.ensures.value at c.restart.ensures.value);
    }
