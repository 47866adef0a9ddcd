use Rattle.std.proofs.Common.{◌-◌, ◌≡◌, ◌≤◌, length, map}
use Rattle.loc_base.specs.Bits.{width_of}
use Rattle.design_core.specs.Words.{valuation_of}
use Rattle.cycle_code.specs.Choosing.{as_choice}
use Rattle.cycle_code.specs.Program.{program_of}
use Rattle.cycle_code.specs.Running.{run}
use Rattle.cycle_code.proofs.running.run.Given as goal

abbrev pub invariant-loop-at : goal.invariant-loop-at
invariant-loop-at l =
    let p = program_of l.code in
    let choice = as_choice l.choices in
    record {
      widths : map width_of l.cells ≡ p.widths;
      within : l.at ≤ length p.instructions;
      value : run p choice l.range.to l.at (valuation_of l.cells) ≡ run p choice l.range.to l.range.from (valuation_of l.initial.cells);
    }

abbrev pub decreases-loop-at : goal.decreases-loop-at
decreases-loop-at l = l.at - l.range.to
